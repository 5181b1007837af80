-- `memory::copy_block` meets its contract: the array has the bytes that go on.
use mathlib.Core.Path.{◌≡◌}
use mathlib.Core.List.{List}
use Prim.Native.Nat.{ℕ}
use native.Mathlib.Omega.{arith}
use lib.ListN.{length, take}
use Rattle.memory.proofs.Bytes.{length_front, take-front, overwrite-front}
use Rattle.memory.proofs.copy_block.Goals as goal

pub returns : goal.returns
returns c =
    let a = c.args in
    let moved : List ℕ = take a.n a.src.now in
    let long : length moved ≡ a.n = length_front a.n a.src.now (omega arith) in
    rw (c.copy_from_slice-2.ensures.after, c.copy_from_slice.ensures.after, take-front a.n moved _ long) (overwrite-front a.dst.now moved a.n long (omega arith))
