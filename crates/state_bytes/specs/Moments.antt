-- The device that a call borrows with its state as bytes, at entry and at exit.
use Rattle.std.specs.Prelude.{ℕ, List}
use Rattle.media.specs.Write.{media_of}
use Rattle.media.specs.Moments.{Slice, media_at_entry, media_at_exit}
use Rattle.device.specs.Device.{Device, device_of}
use Rattle.state_bytes.specs.Encoding.{decode}
use Rattle.state_bytes.specs.InPlace.{Borrowed, borrowed}

abbrev pub borrowed_at_entry : Slice → Slice → Slice → Slice → Borrowed
borrowed_at_entry media sizes frames state = borrowed (media_at_entry media sizes) frames state

abbrev pub borrowed_at_exit : Slice → Slice → Slice → Slice → Borrowed
borrowed_at_exit media sizes frames state = borrowed (media_at_exit media sizes) frames state

-- the device that the bytes say, beside stored sizes that the call does not borrow
abbrev pub decoded_at_entry : Slice → List ℕ → Slice → Slice → Device
decoded_at_entry media stored frames state = device_of (media_of media stored) frames (decode state)

abbrev pub decoded_at_exit : Slice → List ℕ → Slice → Slice → Device
decoded_at_exit media stored frames state = device_of (media_of media stored) frames (decode state)
