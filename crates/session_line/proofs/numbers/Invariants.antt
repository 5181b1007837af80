-- `session_line::numbers` meets its contract: the numbers before i are read.
use Rattle.std.proofs.Common.{◌≡◌, ◌-◌, length}
use Rattle.text.specs.Marks.{fields}
use Rattle.session_line.proofs.Grammar.{left, Parsing}
use Rattle.session_line.proofs.numbers.Given as goal

abbrev pub invariant-loop-i : goal.invariant-loop-i
invariant-loop-i g l = Parsing l.fn.limits (fields l.text) l.values l.i (left l.fields) × (length l.values ≡ length l.fn.limits)

abbrev pub decreases-loop-i : goal.decreases-loop-i
decreases-loop-i g l = length l.fn.limits - l.i
