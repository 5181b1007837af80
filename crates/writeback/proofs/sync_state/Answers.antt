-- `writeback::sync_state` meets its contract: from 0 on are all pages of the file.
use mathlib.Core.Path.{ap, ◌∙◌}
use mathlib.Core.List.{List}
use native.Mathlib.Omega.{arith}
use lib.ListN.{get_or}
use Rattle.device.specs.declared.Slot.{Slot}
use Rattle.device.specs.Device.{with_slots, with_floor}
use Rattle.device.specs.Syncing.{synced_state}
use Rattle.device.proofs.Syncing.{free_all}
use Rattle.state_bytes.specs.Encoding.{decode}
use Rattle.state_bytes.proofs.Inverse.{are_bytes_lem}
use Rattle.state_bytes.proofs.InPlace.{floor_changed}
use Rattle.admission.proofs.Freeing.{freed_changed}
use Rattle.writeback.proofs.sync_state.Goals as goal

pub returns : goal.returns
unfolding synced_state
returns c =
    let a = c.args in
    let freed = freed_changed a.file 0 a.state.now c.requires (are_bytes_lem _ c.slice_known-1.given) c.free_pages_from.new.state c.free_pages_from.ensures in
    floor_changed c.free_pages_from.new.state (omega (arith, c.free_pages_from.auto.state)) (are_bytes_lem _ c.slice_known-2-1.given) a.file c.logical_at-logical.result c.set_floor.new.state c.set_floor.ensures
    ∙ rw (freed, c.logical_at-logical.ensures)
    (ap (λ (slots : List Slot). with_floor (with_slots (decode a.state.now) slots) a.file (get_or (decode a.state.now).logical a.file 0)) (free_all a.file (decode a.state.now).slots))
