-- `writing::patch_frames` meets its contract: the part of the frames takes the bytes.
use Prim.Native.Nat.{◌+◌}
use native.Mathlib.Omega.{arith}
use lib.ListN.{length}
use Rattle.memory.proofs.Bytes.{put_copy}
use Rattle.writing.proofs.patch_frames.Goals as goal

pub returns : goal.returns
returns c =
    let a = c.args in
    put_copy a.at (a.at + length a.bytes.now) a.frames.now _ a.bytes.now c.copy.ensures (omega arith) (omega arith) (omega arith)
