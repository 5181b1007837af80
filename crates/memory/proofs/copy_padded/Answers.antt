-- `memory::copy_padded` meets its contract: what is copied, and zeros after it.
use mathlib.Core.Path.{◌≡◌, ap, ◌∙◌}
use mathlib.Core.List.{List}
use Prim.Native.Nat.{ℕ, ◌-◌, min}
use native.Mathlib.Omega.{arith}
use lib.ListN.{length}
use borrow.Rule.Slice.PartMut.{put_mid}
use Rattle.memory.specs.Bytes.{zeros, part, overwrite}
use Rattle.memory.proofs.Bytes.{length-overwrite, overwrite_pad, put_zeros}
use Rattle.memory.proofs.copy_padded.Goals as goal

-- what copy left, with its rest cleared
padded : (n : ℕ) (xs ys src zs : List ℕ) → ys ≡ overwrite xs 0 src → n ≡ min (length src) (length xs)
    → zs ≡ zeros (length (part ys n (length ys - n))) → put_mid n (length ys - n) ys zs ≡ overwrite (zeros (length xs)) 0 src
padded n xs ys src zs e h z =
    let l : length ys ≡ length xs = ap length e ∙ length-overwrite xs 0 src in
    put_zeros n (length ys) ys zs z (omega arith) (omega arith) ∙ rw (l, e) (overwrite_pad xs src n (omega arith))

pub returns : goal.returns
returns c =
    let a = c.args in
    padded _ a.dst.now _ a.src.now _ c.copy.ensures c.min-copied.ensures c.clear.ensures
