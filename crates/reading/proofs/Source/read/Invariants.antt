-- `reading::Source::read` meets its contract: after i bytes the front of the buffer has the first i current bytes.
use mathlib.Core.Path.{◌≡◌}
use Prim.Native.Nat.{◌-◌, ◌≤◌}
use Rattle.memory.specs.Bytes.{overwrite}
use Rattle.media.specs.Geometry.{pages_per_file}
use Rattle.device.specs.Device.{Device}
use Rattle.device.specs.Current.{current_bytes}
use Rattle.reading.specs.Source.{Shows}
use Rattle.reading.proofs.Source.read.Given as goal

abbrev pub invariant-loop-i : goal.invariant-loop-i
invariant-loop-i l = record {
  front : (d : Device) → Shows l.self d → l.buffer ≡ overwrite l.initial.buffer 0 (current_bytes pages_per_file d l.self.file l.position l.i);
  so_far : l.i ≤ l.count;
}

abbrev pub decreases-loop-i : goal.decreases-loop-i
decreases-loop-i l = l.count - l.i
