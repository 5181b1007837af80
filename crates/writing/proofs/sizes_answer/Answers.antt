-- `writing::sizes_answer` meets its contract: the tests in the order of the definition.
use mathlib.Core.Path.{sym, ◌∙◌}
use native.Mathlib.Omega.{arith}
use borrow.Author.Tests.{le-leb, lt-leb}
use Rattle.device.specs.Sizes.{sizes_tests, sizes_answer}
use Rattle.writing.proofs.sizes_answer.Goals as goal

pub returns-then-not-in_order : goal.returns-then-not-in_order
unfolding sizes_tests sizes_answer
returns-then-not-in_order c = rw (sym c.in_order.ensures ∙ c.if-not-in_order.true)

pub returns-then-n-limit : goal.returns-then-n-limit
unfolding sizes_tests sizes_answer
returns-then-n-limit c = rw (sym c.in_order.ensures ∙ c.if-not-in_order.false, lt-leb c.args.n c.args.greatest (omega arith))

pub returns : goal.returns
unfolding sizes_tests sizes_answer
returns c = rw (sym c.in_order.ensures ∙ c.if-not-in_order.false, le-leb c.args.n c.args.greatest (omega arith))
