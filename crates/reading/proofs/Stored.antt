-- Reading in pieces: the next piece of a buffer.
use mathlib.Core.Path.{◌≡◌}
use mathlib.Core.List.{List}
use Prim.Native.Nat.{ℕ, ◌+◌, ◌-◌, ◌≤◌}
use native.Mathlib.Omega.{arith}
use lib.ListN.{length}
use borrow.Rule.Slice.PartMut.{put_mid}
use Rattle.memory.specs.Bytes.{part, overwrite}
use Rattle.device.specs.Device.{Device}
use Rattle.device.specs.Current.{current_bytes}
use Rattle.device.proofs.Reading.{read_step}

-- the buffer has n current bytes from i on, and then the part up to `to` was filled with those that follow
pub read_to : (P : ℕ) (d : Device) (f : ℕ) (before buffer ys : List ℕ) (i n to : ℕ) → n ≤ to → buffer ≡ overwrite before 0 (current_bytes P d f i n)
    → ys ≡ current_bytes P d f (i + n) (length (part buffer n (to - n))) → to ≤ length buffer
    → put_mid n (to - n) buffer ys ≡ overwrite before 0 (current_bytes P d f i to)
read_to P d f before buffer ys i n to h eb ey fits =
    let e : n + (to - n) ≡ to = omega arith in
    let r : put_mid n (n + (to - n) - n) buffer ys ≡ overwrite before 0 (current_bytes P d f i (n + (to - n))) =
    read_step P d f before buffer ys i n (to - n) eb (rw e ey) (rw e fits) in
    rw e at r
