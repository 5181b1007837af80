-- `state_bytes::all_free` meets its contract: the bytes of the slots are a part of the state.
use mathlib.Core.Path.{◌∙◌}
use native.Mathlib.Omega.{arith}
use borrow.Author.Tests.{ne_eqb}
use lib.ListN.{length}
use Rattle.device.specs.Device.{slot_count}
use Rattle.state_bytes.specs.Encoding.{state_bytes, slots_start}
use Rattle.state_bytes.proofs.Zeros.{zeros-part, slots_tested, slots_other}
use Rattle.state_bytes.proofs.all_free.Goals as goal

pub returns-then-state-eq-STATE_BYTES : goal.returns-then-state-eq-STATE_BYTES
returns-then-state-eq-STATE_BYTES c =
    let a = c.args in
    c.all_zero.ensures ∙ zeros-part a.state.now slots_start 72 (omega arith) ∙ slots_tested a.state.now 0 slot_count (omega arith) (omega arith)

pub returns-else-state-eq-STATE_BYTES : goal.returns-else-state-eq-STATE_BYTES
returns-else-state-eq-STATE_BYTES c =
    let a = c.args in
    rw (ne_eqb (length a.state.now) state_bytes c.if-state-eq-STATE_BYTES.false) (slots_other a.state.now 0 slot_count c.if-state-eq-STATE_BYTES.false)
