-- `state_bytes::slot_at` meets its contract.
use mathlib.Core.Path.{sym, ◌∙◌}
use Rattle.state_bytes.proofs.InPlace.{slot_read, slot_past, slot_other}
use Rattle.state_bytes.proofs.slot_at.Goals.{in_default-via-in-Ok+else-k-lt-SLOTS, in_default-via-in_default}
use Rattle.state_bytes.proofs.slot_at.Goals as goal

pub returns-in-Ok : goal.returns-in-Ok
returns-in-Ok c =
    let a = c.args in
    let w = rw c.in-Ok.is at c.try_from.ensures.1 in
    c.slot_in.ensures ∙ rw w.same (sym (slot_read a.state.now w.long a.k c.if-k-lt-SLOTS.true))

pub returns-in_default : goal.returns-in_default
returns-in_default c =
    let a = c.args in
    c.free_slot.ensures
    ∙ elim c.in_default.branch [
      | in_default-via-in-Ok+else-k-lt-SLOTS w ↦ sym (slot_past a.state.now a.k w.if-k-lt-SLOTS.false)
      | in_default-via-in_default w ↦ sym (slot_other a.state.now (rw w.in_default.is at c.try_from.ensures.1) a.k)
    ]
