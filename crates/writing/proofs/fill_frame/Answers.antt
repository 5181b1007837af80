-- `writing::fill_frame` meets its contract: all of the page is below the floor, or none of it, or it is laid over a blank one.
use mathlib.Core.Path.{◌≡◌, sym, ◌∙◌}
use mathlib.Core.List.{List}
use Prim.Native.Nat.{ℕ, ◌+◌, ◌-◌}
use native.Mathlib.Omega.{arith}
use lib.ListN.{length, length-replicate}
use Rattle.memory.specs.Bytes.{zeros, part, overwrite}
use Rattle.memory.proofs.Bytes.{length_part, overwrite-whole}
use Rattle.media.specs.Geometry.{page_bytes}
use Rattle.device.specs.Writing.{blank_page}
use Rattle.writing.proofs.fill_frame.Goals as goal

-- a whole page leaves nothing of the blank one
page_whole : (p : List ℕ) → length p ≡ page_bytes → overwrite blank_page 0 p ≡ p
unfolding blank_page
page_whole p e = overwrite-whole (zeros page_bytes) p (e ∙ sym (length-replicate {A = ℕ} page_bytes 0))

pub returns-in-256 : goal.returns-in-256
returns-in-256 c =
    let a = c.args in
    let n : a.from + 256 - a.from ≡ a.count = omega arith in
    let l : length (part a.media.now a.from a.count) ≡ page_bytes = length_part a.media.now a.from a.count (omega arith) ∙ c.in-256.is in
    c.patch_frames.ensures ∙ rw (n, page_whole _ l)

pub returns-in-0 : goal.returns-in-0
unfolding blank_page
returns-in-0 c = let e = c.in-0.is in rw e c.patch_frames-in-0.ensures
