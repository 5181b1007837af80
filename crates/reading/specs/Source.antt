-- The source of a file's current bytes, beside a device that has them.
use Rattle.std.specs.Prelude.{◌≡◌}
use Rattle.media.specs.Geometry.{pages_per_file}
use Rattle.device.specs.Device.{Device, floor_at}
use Rattle.admission.specs.Tables.{slot_table}
use Rattle.reading.specs.declared.Source.{Source}

pub record Shows (s : Source) (d : Device) : Type 0 where
  pub media : s.media.now ≡ d.media.bytes
  pub frames : s.frames.now ≡ d.frames
  pub slots : s.table.now.slots ≡ slot_table pages_per_file d.cache.slots
  pub floor : s.floor ≡ floor_at d s.file
