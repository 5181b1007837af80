-- `writing::use_slot` meets its contract: the slot in the bytes is the slot of the state.
use Rattle.state_bytes.proofs.InPlace.{slot_changed}
use Rattle.writing.proofs.Arrays.{bytes_fit}
use Rattle.writing.proofs.use_slot.Goals as goal

pub returns : goal.returns
returns c = slot_changed c.args.state.now c.told-state (bytes_fit _ c.fits-state) _ _ _ c.set_slot.ensures
