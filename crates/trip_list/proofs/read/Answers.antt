use Rattle.std.proofs.Common.{refl, arith}
use Rattle.std.proofs.lemmas.Result.{err_from_is_err_and}
use Rattle.trip_list.proofs.Stepping.{step_line, step-refused, line-inside, minute-fits}
use Rattle.trip_list.proofs.Walking.{walked_start, walked_next, next-after, held_start, held_here, held_next, read-range, read-bad, read-done}
use Rattle.trip_list.proofs.read.Goals as goal
use Rattle.trip_list.proofs.read.Goals.{then-found-place, else-found-place}

pub returns-then-list-gt-MAX_LIST : goal.returns-then-list-gt-MAX_LIST
returns-then-list-gt-MAX_LIST c = read-range _ _ (omega arith)

pub loop-at-init : goal.loop-at-init
loop-at-init c = record { walked = walked_start _; held = held_start _ _; short = omega arith }

pub returns-in_err-line : goal.returns-in_err-line
returns-in_err-line c =
    let l = c.loop-at.invariant in
    let p = err_from_is_err_and c.from_residual.result c.from_residual.ensures.1 in
    rw (p.1, p.2) (read-bad _ l.short _ _ _ l.walked _ _ (step-refused _ _ _ _ c.in_err-line.ensures (omega arith) _ refl))

pub trip_of-requires : goal.trip_of-requires
trip_of-requires c = ((step_line _ _ _ _ c.in_ok-line.ensures _ refl).0, omega arith)

pub overflow_add-at : goal.overflow_add-at
overflow_add-at c = omega (arith, line-inside _ _ _ (step_line _ _ _ _ c.in_ok-line.ensures _ refl).0)

pub overflow_add-least : goal.overflow_add-least
overflow_add-least c = omega (arith, minute-fits _ _ _ (step_line _ _ _ _ c.in_ok-line.ensures _ refl).0)

pub loop-at-smaller : goal.loop-at-smaller
loop-at-smaller c =
    let f = step_line _ _ _ _ c.in_ok-line.ensures _ refl in
    omega (arith, line-inside _ _ _ f.0, next-after _ _ _ _ c.loop-at.invariant.walked (omega arith) _ f.0)

pub loop-at-preserved : goal.loop-at-preserved
loop-at-preserved c =
    let l = c.loop-at.invariant in
    let f = step_line _ _ _ _ c.in_ok-line.ensures _ refl in
    let next = walked_next _ _ _ _ l.walked (omega arith) _ f.0 f.1 in
    elim c.if-found-place.branch [
      | then-found-place w ↦ rw (w.found-is, w.trip_of.ensures)
          (record { walked = next; held = held_here _ _ _ _ l.walked.starts w.if-found-place.true; short = l.short })
      | else-found-place w ↦ rw w.found-is
          (record { walked = next; held = held_next _ _ _ _ l.walked.starts _ l.held w.if-found-place.false; short = l.short })
    ]

pub returns : goal.returns
returns c =
    let l = c.loop-at.invariant in
    read-done _ l.short _ _ _ l.walked _ (omega arith) _ l.held
