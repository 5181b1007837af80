-- `session::run` meets its contract: each block that was served adds to what was read and printed, and the end makes it whole.
use Rattle.session.proofs.Served.{one_more, replied}
use Rattle.session.proofs.run.Goals as goal

pub loop-preserved : goal.loop-preserved
loop-preserved g c = one_more _ _ _ _ _ _ _ _ _ _ _ _ c.loop.invariant (rw c.in-Some.is at c.in_ok-next.ensures)

pub returns-in-None : goal.returns-in-None
returns-in-None g c = replied _ _ _ _ _ _ _ c.loop.invariant (rw c.in-None.is at c.in_ok-next.ensures)
