-- `writeback::write_frame` meets its contract: the page that was borrowed from the media lies within it, so PAGE replaces it in place.
use mathlib.Core.Path.{◌≡◌, ◌∙◌, ap}
use mathlib.Core.List.{List}
use Prim.Native.Nat.{ℕ, ◌+◌, ◌-◌}
use native.Mathlib.Omega.{arith}
use Rattle.memory.specs.Bytes.{part, overwrite}
use Rattle.memory.proofs.Bytes.{length_part, put_back}
use Rattle.media.specs.Geometry.{page_bytes, file_start, page_start}
use Rattle.media.specs.Write.{media_of}
use Rattle.media.specs.Direct.{page_after}
use Rattle.media.proofs.Geometry.{file_end}
use Rattle.media.proofs.Direct.{page_in-place}
use Rattle.device.specs.Device.{frame_start}
use Rattle.writeback.proofs.write_frame.Goals as goal

pub returns : goal.returns
unfolding file_start
returns c =
    let a = c.args in
    let start : ℕ = page_start a.pages a.file a.number in
    let first : ℕ = frame_start a.slot in
    let bytes : List ℕ = part a.frames.now first page_bytes in
    let n : start + page_bytes - start ≡ page_bytes = omega arith in
    let k : first + page_bytes - first ≡ page_bytes = omega arith in
    let left : c.write_page.new.page ≡ page_after (part a.media.now start page_bytes) bytes = rw (n, k) at c.write_page.ensures.1 in
    λ stored. ap (λ (l : List ℕ). media_of l stored)
    (put_back start (start + page_bytes) a.media.now c.write_page.new.page (omega arith) (omega arith) (omega (arith, file_end a.pages a.file (omega arith))) ∙ ap (overwrite a.media.now start) left)
    ∙ page_in-place a.pages (media_of a.media.now stored) a.file a.number bytes (omega arith) (omega arith, omega arith, length_part a.frames.now first page_bytes (omega arith))
