-- `boxstore::span_word` meets its contract, by where the part lies.
use native.Mathlib.Omega.{arith}
use Rattle.boxstore.proofs.span_word.Goals as goal

pub returns-then-s : goal.returns-then-s
returns-then-s c = rw c.if-s.true

pub returns : goal.returns
returns c = rw c.if-s.false (omega arith)
