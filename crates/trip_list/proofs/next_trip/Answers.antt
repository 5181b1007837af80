-- `trip_list::next_trip` meets its contract: each case of the line is one of the cursor.
use Rattle.std.proofs.Common.{refl, arith}
use Rattle.std.proofs.lemmas.Result.{err_from_is_err_and}
use Rattle.trip_list.proofs.Stepping.{step_line, step-refused, line-inside}
use Rattle.trip_list.proofs.Walking.{next-range, next_end, next-bad, next-found}
use Rattle.trip_list.proofs.next_trip.Goals as goal

pub returns-then-list-gt-MAX_LIST : goal.returns-then-list-gt-MAX_LIST
returns-then-list-gt-MAX_LIST c = next-range _ _ _ (omega arith)

pub returns-then-at-list : goal.returns-then-at-list
returns-then-at-list c = next_end _ _ _ (omega arith) (omega arith)

pub returns-in_err-line : goal.returns-in_err-line
returns-in_err-line c =
    let p = err_from_is_err_and c.from_residual.result c.from_residual.ensures.1 in
    rw (p.1, p.2) (next-bad _ _ _ (omega arith) (omega arith) _ (step-refused _ _ _ _ c.in_err-line.ensures (omega arith) _ refl))

pub overflow_add-result : goal.overflow_add-result
overflow_add-result c = omega (arith, line-inside _ _ _ (step_line _ _ _ _ c.in_ok-line.ensures _ refl).0)

pub trip_of-requires : goal.trip_of-requires
trip_of-requires c = ((step_line _ _ _ _ c.in_ok-line.ensures _ refl).0, omega arith)

pub returns : goal.returns
returns c =
    let s = step_line _ _ _ _ c.in_ok-line.ensures _ refl in
    next-found _ _ _ (omega arith) (omega arith) _ s.0 s.1 _ c.trip_of.ensures
