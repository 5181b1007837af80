-- `state_bytes::eight_free` meets its contract: 24 bytes are 0 where three words are.
use mathlib.Core.Path.{refl, sym, ◌∙◌}
use mathlib.Core.Bool.{false≢true}
use native.Mathlib.Omega.{arith}
use borrow.Author.Tests.{eq-eqb, ne_eqb}
use Rattle.state_bytes.proofs.Zeros.{three_words, slots_short, slots_other}
use Rattle.state_bytes.proofs.eight_free.Goals.{then-word_in-eq0, else-word_in-eq0}
use Rattle.state_bytes.proofs.eight_free.Goals as goal

pub returns-then-word_in-eq0-2 : goal.returns-then-word_in-eq0-2
returns-then-word_in-eq0-2 c =
    let a = c.args in
    let s = rw c.in-Ok.is at c.try_from.ensures.1 in
    elim c.if-word_in-eq0.branch [
      | then-word_in-eq0 w ↦ rw (eq-eqb _ 0 w.if-word_in-eq0.true, sym w.value-is ∙ c.if-word_in-eq0-2.true) at
          (three_words a.state.now a.k _ _ _ s.long (omega arith) (rw s.same at c.word_in.ensures) (rw s.same at w.word_in-then-word_in-eq0.ensures) (rw s.same at c.word_in-then-word_in-eq0-2.ensures))
      | else-word_in-eq0 w ↦ absurd (false≢true (sym (ne_eqb _ 0 w.if-word_in-eq0.false) ∙ sym w.value-is ∙ c.if-word_in-eq0-2.true))
    ]

pub returns-else-word_in-eq0-2 : goal.returns-else-word_in-eq0-2
returns-else-word_in-eq0-2 c =
    let a = c.args in
    let s = rw c.in-Ok.is at c.try_from.ensures.1 in
    c.if-word_in-eq0-2.false ∙
    elim c.if-word_in-eq0.branch [
      | then-word_in-eq0 w ↦ rw (eq-eqb _ 0 w.if-word_in-eq0.true, sym w.value-is ∙ c.if-word_in-eq0-2.false) at
          (three_words a.state.now a.k _ _ _ s.long (omega arith) (rw s.same at c.word_in.ensures) (rw s.same at w.word_in-then-word_in-eq0.ensures) refl)
      | else-word_in-eq0 w ↦ rw (ne_eqb _ 0 w.if-word_in-eq0.false) at
          (three_words a.state.now a.k _ _ _ s.long (omega arith) (rw s.same at c.word_in.ensures) refl refl)
    ]

pub returns-in_default : goal.returns-in_default
returns-in_default c =
    let a = c.args in slots_short a.state.now a.k 8 (omega arith)

pub returns-in_default-2 : goal.returns-in_default-2
returns-in_default-2 c =
    let a = c.args in slots_other a.state.now a.k 8 (rw c.in_default.is at c.try_from.ensures.1)
