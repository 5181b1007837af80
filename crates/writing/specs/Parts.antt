-- The parts of the device that a write borrows.
use Rattle.std.specs.Prelude.{◌≡◌, ℕ, List}
use Rattle.media.specs.Write.{media_of}
use Rattle.device.specs.Device.{Device, device_of}
use Rattle.state_bytes.specs.Encoding.{decode}
use Rattle.writing.specs.declared.Parts.{Parts}

-- the device that they are, beside stored sizes that a write does not borrow
abbrev pub device_beside : List ℕ → Parts → Device
device_beside stored parts = device_of (media_of parts.media.now stored) parts.frames.now (decode parts.state.now)

-- they are borrowed from where they were
abbrev pub SameParts : Parts → Parts → Type 0
SameParts before after =
    (after.media ≡ before.media) × (after.frames.ghost_name ≡ before.frames.ghost_name)
    × (after.state.ghost_name ≡ before.state.ghost_name)
