use Rattle.device.proofs.no_slots.Goals as goal

pub returns : goal.returns
returns c = rw c.free_slot.ensures
