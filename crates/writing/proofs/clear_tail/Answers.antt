-- `writing::clear_tail` meets its contract: from there to the end of the frame.
use mathlib.Core.Path.{◌≡◌, ◌∙◌}
use Prim.Native.Nat.{◌+◌, ◌-◌, ◌%◌}
use native.Mathlib.Omega.{arith}
use Rattle.memory.proofs.Bytes.{put_zeros}
use Rattle.media.specs.Geometry.{page_bytes}
use Rattle.device.specs.Device.{frame_start}
use Rattle.writing.proofs.clear_tail.Goals as goal

pub returns : goal.returns
returns c =
    let a = c.args in
    let start = frame_start a.k in
    let from = start + a.n % page_bytes in
    let e : start + page_bytes - from ≡ page_bytes - a.n % page_bytes = omega arith in
    put_zeros from (start + page_bytes) a.frames.now c.clear.new.dst c.clear.ensures (omega arith) (omega arith) ∙ rw e
