-- `session_line::number` meets its contract: the digits before the index are read.
use Rattle.session_line.proofs.Grammar.{DigitsTo}
use Rattle.session_line.proofs.number.Given as goal

abbrev pub invariant-loop-byte : goal.invariant-loop-byte
invariant-loop-byte l = DigitsTo l.text l.byte-index l.value
