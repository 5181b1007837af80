-- `trip_writer::Side::driver` meets its contract: the driver's bytes lie in the list.
use native.Mathlib.Omega.{arith}
use Rattle.trip_list.proofs.Stepping.{driver-inside}
use Rattle.trip_writer.proofs.Joining.{driver-bytes}
use Rattle.trip_writer.proofs.Side.driver.Goals as goal

pub overflow_add-start : goal.overflow_add-start
overflow_add-start c = omega (arith, driver-inside _ _ _ c.requires)

pub overflow_add-result : goal.overflow_add-result
overflow_add-result c = omega (arith, driver-inside _ _ _ c.requires)

pub slice_bounds-result-end : goal.slice_bounds-result-end
slice_bounds-result-end c = omega (arith, driver-inside _ _ _ c.requires)

pub returns : goal.returns
returns c = driver-bytes _ _ _ c.requires _ (omega arith)
