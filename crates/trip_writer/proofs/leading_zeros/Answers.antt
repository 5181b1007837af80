-- `trip_writer::leading_zeros` meets its contract: those of the first eight bytes, and those after them.
use Prim.Native.Nat.{◌-◌}
use native.Mathlib.Omega.{arith}
use lib.ListN.{drop}
use Rattle.trip_writer.proofs.Pieces.{zeros-within, zeros-counted}
use Rattle.trip_writer.proofs.leading_zeros.Goals as goal

pub overflow_add-result : goal.overflow_add-result
overflow_add-result c =
    let last = c.saturating_sub-last.result in
    let first = c.min-passed.result in
    omega (arith, zeros-within (last - first) _ (drop first c.args.text.now) c.zeros_before.ensures, c.min-passed.ensures)

pub returns : goal.returns
returns c = zeros-counted _ _ _ _ _ _ c.requires c.saturating_sub-last.ensures c.zeros.ensures c.min-passed.ensures c.zeros_before.ensures
