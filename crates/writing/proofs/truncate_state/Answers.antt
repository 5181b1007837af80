-- `writing::truncate_state` meets its contract: slots, then sizes.
use native.Mathlib.Omega.{arith}
use Rattle.state_bytes.specs.Encoding.{decode}
use Rattle.writing.proofs.Arrays.{bytes_fit}
use Rattle.writing.proofs.Tails.{sizes-set}
use Rattle.state_bytes.proofs.Inverse.{are_bytes_lem}
use Rattle.state_bytes.proofs.InPlace.{logical_changed, floor_changed}
use Rattle.admission.proofs.Freeing.{freed_changed}
use Rattle.writing.proofs.truncate_state.Goals as goal

pub returns : goal.returns
returns c =
    let x = freed_changed c.args.file c.args.n c.args.state.now c.told-state (bytes_fit _ c.fits-state) _ c.free_pages_from.ensures in
    let y = logical_changed _ (omega (arith, c.free_pages_from.auto.state)) (are_bytes_lem _ c.slice_known-1.given) _ _ _ c.set_logical.ensures in
    let z = floor_changed _ (omega (arith, c.free_pages_from.auto.state, c.set_logical.auto.state)) (are_bytes_lem _ c.slice_known-2-1.given) _ _ _ c.set_floor.ensures in
    sizes-set (decode c.args.state.now) _ _ _ _ c.args.file c.args.n c.logical_at.result _ _
    c.floor_at.ensures c.truncated_sizes-after.ensures x y z
