use mathlib.Core.Path.{refl, sym, ◌∙◌}
use native.Mathlib.Omega.{arith}
use Rattle.memory.proofs.Bytes.{overwrite-none}
use Rattle.state_bytes.proofs.Encoding.{put_next}
use Rattle.device.specs.Device.{free_slot}
use Rattle.state_bytes.specs.Encoding.{slots_start, slot_bytes}
use Rattle.state_bytes.proofs.put_slots.Goals as goal

pub loop-k-init : goal.loop-k-init
loop-k-init c = sym (overwrite-none _ slots_start)

pub loop-k-preserved : goal.loop-k-preserved
loop-k-preserved c =
    let a = c.args in
    c.put.ensures ∙ rw (c.slot_bytes.ensures, c.loop-k.invariant) (put_next 3 slot_bytes (λ x. refl) a.state.now slots_start a.slots.now c.loop-k.k free_slot (omega arith))
