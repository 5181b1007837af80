-- `state_bytes::set_slot` meets its contract.
use mathlib.Core.Path.{sym, ◌∙◌}
use Rattle.device.specs.Device.{slot_count}
use Rattle.state_bytes.specs.Encoding.{slots_start, slot_bytes}
use Rattle.state_bytes.proofs.InPlace.{set_here, set_past, set_other}
use Rattle.state_bytes.proofs.set_slot.Goals as goal

pub returns-then-k-lt-SLOTS : goal.returns-then-k-lt-SLOTS
returns-then-k-lt-SLOTS c =
    let a = c.args in
    let w = c.in-Some.ensures.cases in
    c.put.ensures ∙ rw (w.same, c.slot_bytes.ensures) (set_here slot_bytes slots_start 3 slot_count a.state.now a.k a.s w.long c.if-k-lt-SLOTS.true)

pub returns-else-k-lt-SLOTS : goal.returns-else-k-lt-SLOTS
returns-else-k-lt-SLOTS c =
    let a = c.args in
    let w = c.in-Some.ensures.cases in
    w.same ∙ set_past slot_bytes slots_start 3 slot_count a.state.now a.k a.s w.long c.if-k-lt-SLOTS.false

pub returns-in_default : goal.returns-in_default
returns-in_default c =
    let a = c.args in sym (set_other slot_bytes slots_start 3 slot_count a.state.now a.k a.s c.in_default.ensures.cases)
