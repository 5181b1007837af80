-- `trip_writer::same_rest` meets its contract: the metres, then the bytes of the drivers.
use Rattle.trip_writer.proofs.Joining.{metres-differ, metres_same}
use Rattle.trip_writer.proofs.same_rest.Goals as goal

pub returns-then-a-b : goal.returns-then-a-b
returns-then-a-b c = metres_same _ _ _ c.requires.0 _ _ _ c.requires.1 c.if-a-b.true _ _ c.driver.ensures c.driver-then-a-b.ensures _ c.eq.ensures

pub returns-else-a-b : goal.returns-else-a-b
returns-else-a-b c = metres-differ _ _ _ c.requires.0 _ _ _ c.requires.1 c.if-a-b.false
