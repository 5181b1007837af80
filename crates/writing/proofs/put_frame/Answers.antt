-- `writing::put_frame` meets its contract: one half after the other.
use mathlib.Core.Path.{◌≡◌, sym}
use native.Mathlib.Omega.{arith}
use lib.ListN.{length, take, drop, take-append-drop}
use Rattle.memory.proofs.Bytes.{length_front, overwrite-join_at}
use Rattle.device.specs.Device.{frame_start}
use Rattle.writing.proofs.put_frame.Goals as goal

pub returns : goal.returns
returns c =
    let a = c.args in
    let p = a.page.now in
    let l : length (take 128 p) ≡ 128 = length_front 128 p (omega arith) in
    rw (c.patch_frames-2.ensures, c.patch_frames.ensures, c.split_at.ensures.front, c.split_at.ensures.back)
    (sym (rw (take-append-drop) at (overwrite-join_at a.frames.now (frame_start a.k) (take 128 p) (drop 128 p))))
