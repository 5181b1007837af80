-- `reading::Source::read_frame` meets its contract: the bytes of the page are in its frame.
use mathlib.Core.Path.{◌≡◌, ◌∙◌, ap}
use Prim.Native.Nat.{ℕ, ◌+◌, ◌-◌, ◌%◌}
use native.Mathlib.Omega.{arith}
use lib.ListN.{length}
use Rattle.memory.specs.Bytes.{part}
use Rattle.media.specs.Geometry.{page_bytes, pages_per_file}
use Rattle.device.specs.Device.{frame_start}
use Rattle.device.proofs.Current.{bytes-cached}
use Rattle.reading.proofs.Source.read_frame.Goals as goal

pub returns : goal.returns
returns c =
    let a = c.args in
    let s = a.self.now in
    let n : ℕ = length a.buffer.now in
    let first : ℕ = frame_start a.k + a.at % page_bytes in
    let e : first + n - first ≡ n = omega arith in
    λ d shows e-k.
    c.copy_from_slice.ensures.after
    ∙ ap (part s.frames.now first) e
    ∙ rw shows.frames
    (bytes-cached pages_per_file d s.file a.at n a.k e-k (omega arith) (omega arith) (omega (arith, ap length shows.frames)))
