-- `state_bytes::put` meets its contract: the bytes fit.
use Prim.Native.Nat.{◌+◌}
use native.Mathlib.Omega.{arith}
use lib.ListN.{length}
use Rattle.memory.proofs.Bytes.{put_back}
use Rattle.state_bytes.proofs.put.Goals as goal

pub returns : goal.returns
returns c =
    let a = c.args in
    rw c.copy_from_slice.ensures.after (put_back a.at (a.at + length a.bytes.now) a.state.now a.bytes.now (omega arith) (omega arith) (omega arith))
