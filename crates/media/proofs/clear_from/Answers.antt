-- `media::clear_from` meets its contract: the part that is cleared lies within the media.
use mathlib.Core.Path.{◌≡◌, ◌∙◌}
use Prim.Native.Nat.{ℕ, ◌+◌, ◌-◌, ◌≤◌}
use native.Mathlib.Omega.{arith}
use borrow.Author.Rules.{rules}
use Rattle.memory.proofs.Bytes.{put_zeros}
use Rattle.media.specs.Geometry.{file_bytes, media_bytes, file_start}
use Rattle.media.proofs.Geometry.{file_end}
use Rattle.media.proofs.clear_from.Goals as goal

pub returns : goal.returns
unfolding file_start
returns c =
    let a = c.args in
    let ends : file_start a.pages.count a.file + file_bytes a.pages.count ≤ media_bytes a.pages.count = file_end _ _ (omega arith) in
    let l : ℕ = file_bytes a.pages.count in
    let start : ℕ = file_start a.pages.count a.file in
    let e : start + l - (start + a.n) ≡ l - a.n = omega arith in
    rw c.file_len-file_len.ensures
    (put_zeros (start + a.n) (start + l) a.media.now c.fill.new.self (rw c.file_len-file_len.ensures at (c.fill.ensures.after (λ y k. search rules))) (omega arith) (omega arith) ∙ rw e)
