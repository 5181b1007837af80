-- `trip_list::line_in_front` meets its contract: field by field.
use Rattle.std.proofs.Common.{arith}
use Rattle.trip_list.proofs.Runs.{nothing_read}
use Rattle.trip_list.proofs.Scanning.{no_minute_lem, second-within, no_metres, third_within, no_driver, end_within, line-found}
use Rattle.trip_list.proofs.line_in_front.Goals as goal

pub returns-in_err-minute : goal.returns-in_err-minute
returns-in_err-minute c = rw c.from_residual.ensures (nothing_read (no_minute_lem _ c.in_err-minute.ensures))

pub overflow_add-second : goal.overflow_add-second
overflow_add-second c = omega (arith, second-within _ _ c.in_ok-minute.ensures)

pub slice_bounds-number_in_front-count : goal.slice_bounds-number_in_front-count
slice_bounds-number_in_front-count c = second-within _ _ c.in_ok-minute.ensures

pub slice_bounds-number_in_front-start : goal.slice_bounds-number_in_front-start
slice_bounds-number_in_front-start c = second-within _ _ c.in_ok-minute.ensures

pub returns-in_err-metres : goal.returns-in_err-metres
returns-in_err-metres c =
    rw c.from_residual-in_err-metres.ensures (nothing_read (no_metres _ _ c.in_ok-minute.ensures c.in_err-metres.ensures))

pub overflow_add-driver : goal.overflow_add-driver
overflow_add-driver c = omega (arith, third_within _ _ c.in_ok-minute.ensures _ c.in_ok-metres.ensures)

pub overflow_add-driver-2 : goal.overflow_add-driver-2
overflow_add-driver-2 c = omega (arith, third_within _ _ c.in_ok-minute.ensures _ c.in_ok-metres.ensures)

pub slice_bounds-driver_in_front-count : goal.slice_bounds-driver_in_front-count
slice_bounds-driver_in_front-count c = third_within _ _ c.in_ok-minute.ensures _ c.in_ok-metres.ensures

pub slice_bounds-driver_in_front-start : goal.slice_bounds-driver_in_front-start
slice_bounds-driver_in_front-start c = third_within _ _ c.in_ok-minute.ensures _ c.in_ok-metres.ensures

pub returns-in_err-letters : goal.returns-in_err-letters
returns-in_err-letters c =
    rw c.from_residual-in_err-letters.ensures
    (nothing_read (no_driver _ _ c.in_ok-minute.ensures _ c.in_ok-metres.ensures c.in_err-letters.ensures))

pub overflow_add-result : goal.overflow_add-result
overflow_add-result c =
    omega (arith, end_within _ _ c.in_ok-minute.ensures _ c.in_ok-metres.ensures _ c.in_ok-letters.ensures)

pub overflow_add-result-2 : goal.overflow_add-result-2
overflow_add-result-2 c =
    omega (arith, end_within _ _ c.in_ok-minute.ensures _ c.in_ok-metres.ensures _ c.in_ok-letters.ensures)

pub returns : goal.returns
returns c =
    line-found _ _ c.in_ok-minute.ensures _ c.in_ok-metres.ensures _ c.in_ok-letters.ensures
