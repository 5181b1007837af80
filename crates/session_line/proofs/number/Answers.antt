-- `session_line::number` meets its contract: the length decides first, then the digits, then the value.
use Rattle.std.proofs.Common.{arith, inl, inr, sym, ◌∙◌, rules}
use Rattle.session_line.proofs.Grammar.{no_length, not_digit, all_read}
use Rattle.session_line.proofs.number.Goals as goal
use Rattle.session_line.proofs.number.Goals.{then-is_empty-via-then-is_empty, then-is_empty-via-else-is_empty+then-text-gt5}

pub returns-then-is_empty : goal.returns-then-is_empty
returns-then-is_empty c = no_length _ _ (elim c.then-is_empty.branch [ then-is_empty-via-then-is_empty w ↦ inl (search rules) | then-is_empty-via-else-is_empty+then-text-gt5 w ↦ inr (omega arith) ])

pub returns-then-not-is_ascii_digit : goal.returns-then-not-is_ascii_digit
returns-then-not-is_ascii_digit c = not_digit _ _ (omega arith) (omega arith) _ _ c.loop-byte.invariant (omega arith) (sym c.is_ascii_digit.ensures.value ∙ c.if-not-is_ascii_digit.true)

pub returns : goal.returns
returns c = c.then_some.ensures ∙ all_read _ _ (search rules) (omega arith) _ _ c.loop-byte.invariant (omega arith)
