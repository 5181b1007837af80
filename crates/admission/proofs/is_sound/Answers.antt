-- `admission::is_sound` meets its contract: the sizes, then the slots, then the up mark.
use mathlib.Core.Path.{sym, ◌∙◌}
use mathlib.Core.Bool.{false≢true}
use native.Mathlib.Omega.{arith}
use borrow.Author.Tests.{eq-eqb, ne_eqb}
use Rattle.admission.proofs.Soundness.{not-ordered, not-passed, sound-up, sound-down, no_mark}
use Rattle.state_bytes.proofs.InPlace.{slots_read}
use Rattle.admission.proofs.is_sound.Goals as goal
use Rattle.admission.proofs.is_sound.Goals.{then-not-files_in_order-via-then-not-files_in_order, then-not-files_in_order-via-else-not-files_in_order+then-not-enter_slots}

pub returns-then-not-files_in_order : goal.returns-then-not-files_in_order
returns-then-not-files_in_order c = (
  elim c.then-not-files_in_order.branch [
    | then-not-files_in_order-via-then-not-files_in_order w ↦ not-ordered _ _ (sym c.files_in_order.ensures ∙ w.if-not-files_in_order.true)
    | then-not-files_in_order-via-else-not-files_in_order+then-not-enter_slots w ↦ not-passed _ _ (omega arith) (sym w.enter_slots.ensures.0 ∙ w.if-not-enter_slots.true)
  ],
  λ q. absurd (false≢true q),
)

pub returns-then-state-eq1 : goal.returns-then-state-eq1
returns-then-state-eq1 c =
    let (passes, table) = c.enter_slots.ensures in
    let p = sym passes ∙ c.if-not-enter_slots.false in
    let o = sym c.files_in_order.ensures ∙ c.if-not-files_in_order.false in (
      eq-eqb _ _ c.if-state-eq1.true ∙ sound-up _ _ (omega arith) p o c.if-state-eq1.true,
      λ q. table c.if-not-enter_slots.false ∙ rw (slots_read c.args.state.now (omega arith)),
    )

pub returns-then-state-eq0 : goal.returns-then-state-eq0
returns-then-state-eq0 c =
    let (passes, table) = c.enter_slots.ensures in
    let p = sym passes ∙ c.if-not-enter_slots.false in
    let o = sym c.files_in_order.ensures ∙ c.if-not-files_in_order.false in (
      c.is_down.ensures ∙ sound-down _ _ (omega arith) p o c.if-state-eq0.true,
      λ q. table c.if-not-enter_slots.false ∙ rw (slots_read c.args.state.now (omega arith)),
    )

pub returns-else-state-eq0 : goal.returns-else-state-eq0
returns-else-state-eq0 c =
    let (passes, table) = c.enter_slots.ensures in (
      ne_eqb _ _ c.if-state-eq0.false ∙ no_mark _ _ (omega arith) c.if-state-eq1.false c.if-state-eq0.false,
      λ q. table c.if-not-enter_slots.false ∙ rw (slots_read c.args.state.now (omega arith)),
    )
