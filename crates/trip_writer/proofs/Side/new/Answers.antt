-- `trip_writer::Side::new` meets its contract: the line that was found, or none.
use mathlib.Core.Path.{refl}
use Rattle.trip_writer.proofs.Joining.{headed}
use Rattle.trip_writer.proofs.Side.new.Goals as goal

pub returns : goal.returns
returns c = record { bytes = refl; index = refl; headed = headed _ _ _ c.line_at.result c.line_at.ensures _ c.ok.ensures.value }
