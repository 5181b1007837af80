-- `trip_list::line_at` meets its contract: the line in front of the rest, then its minute.
use Rattle.trip_list.proofs.Stepping.{line_from, given-none, given-low, given-line}
use Rattle.trip_list.proofs.line_at.Goals as goal

pub returns-in_default : goal.returns-in_default
returns-in_default c = given-none _ _ _ (line_from _ _ _ _ c.get.ensures.lookup c.in_default.ensures)

pub returns-then-line-least : goal.returns-then-line-least
returns-then-line-least c = given-low _ _ _ _ (line_from _ _ _ _ c.get.ensures.lookup c.in-Some.ensures) c.if-line-least.true

pub returns : goal.returns
returns c = given-line _ _ _ _ (line_from _ _ _ _ c.get.ensures.lookup c.in-Some.ensures) c.if-line-least.false
