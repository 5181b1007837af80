-- `state_bytes::slot_word` meets its contract: a byte is below 256.
use Prim.Native.Nat.{◌+◌, ◌*◌}
use native.Mathlib.Omega.{arith}
use Rattle.state_bytes.specs.Encoding.{slots_start}
use Rattle.state_bytes.proofs.InPlace.{slot_read, slot_past, slot_other}
use Rattle.state_bytes.proofs.slot_word.Goals as goal

pub returns-in-Ok : goal.returns-in-Ok
returns-in-Ok c =
    let a = c.args in
    let w = rw c.in-Ok.is at c.try_from.ensures.1 in
    let at = slots_start + 3 * a.k in
    let small = c.type_inv.state in
    rw (slot_read a.state.now w.long a.k c.if-k-lt-SLOTS.true, c.number_in.ensures, w.same) (omega (arith, small at, small (at + 1), small (at + 2)))

pub returns-in_default : goal.returns-in_default
returns-in_default c =
    let a = c.args in rw (slot_past a.state.now a.k c.if-k-lt-SLOTS.false)

pub returns-in_default-2 : goal.returns-in_default-2
returns-in_default-2 c =
    let a = c.args in rw (slot_other a.state.now (rw c.in_default.is at c.try_from.ensures.1) a.k)
