-- `trip_list::trip_of` meets its contract: the numbers fit 32 bits, and the driver lies in the list.
use Rattle.std.proofs.Common.{arith}
use Rattle.trip_list.proofs.Stepping.{minute-fits, metres-fits, driver-inside, trip-found}
use Rattle.trip_list.proofs.trip_of.Goals as goal

pub overflow_cast-result : goal.overflow_cast-result
overflow_cast-result c = omega (arith, minute-fits _ _ _ c.requires.0)

pub overflow_cast-result-2 : goal.overflow_cast-result-2
overflow_cast-result-2 c = omega (arith, metres-fits _ _ _ c.requires.0)

pub overflow_add-result : goal.overflow_add-result
overflow_add-result c = omega (arith, driver-inside _ _ _ c.requires.0)

pub overflow_cast-result-3 : goal.overflow_cast-result-3
overflow_cast-result-3 c = omega (arith, driver-inside _ _ _ c.requires.0, c.requires.1)

pub overflow_cast-result-4 : goal.overflow_cast-result-4
overflow_cast-result-4 c = omega (arith, driver-inside _ _ _ c.requires.0, c.requires.1)

pub returns : goal.returns
returns c = trip-found _ _ _ c.requires.0
