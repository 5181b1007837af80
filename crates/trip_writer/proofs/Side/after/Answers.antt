-- `trip_writer::Side::after` meets its contract: the line ends within the list, and its minute fits.
use native.Mathlib.Omega.{arith}
use Rattle.trip_list.proofs.Stepping.{line-inside, minute-fits}
use Rattle.trip_writer.proofs.Side.after.Goals as goal

pub overflow_add-self : goal.overflow_add-self
overflow_add-self c = omega (arith, line-inside _ _ _ c.requires)

pub overflow_add-line : goal.overflow_add-line
overflow_add-line c = omega (arith, minute-fits _ _ _ c.requires)
