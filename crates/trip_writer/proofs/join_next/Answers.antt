-- `trip_writer::join_next` meets its contract: two lines of one minute, or lines of one list.
use native.Mathlib.Omega.{arith}
use Rattle.trip_writer.proofs.Joining.{minute_within, first_placed, second_placed, skip_next}
use Rattle.trip_writer.proofs.join_next.Goals as goal
use Rattle.trip_writer.proofs.join_next.Goals.{then-s, else-s, then-swap, else-swap}

pub returns : goal.returns
returns c =
    let s = c.in-Some-Some in
    let n =
    skip_next _ _ _ _ c.requires.0 s.a s.b s.is-0 s.is-1 (omega arith) _ c.after.ensures c.if-s.result
    (elim c.if-s.branch [ then-s w ↦ rw (w.result-is, w.if-s.true) w.same_rest.ensures | else-s w ↦ rw (w.result-is, w.if-s.false) ]) in
    (n.0, omega (arith, n.1))

pub spell_below-end-requires : goal.spell_below-end-requires
spell_below-end-requires c =
    let w = c.requires.0 in
    elim c.if-swap.branch [
      | then-swap o ↦ rw o.limit-is (second_placed _ _ _ _ w, omega (arith, c.minute-first.ensures, minute_within _ _ w.first))
      | else-swap o ↦ rw o.limit-is (first_placed _ _ _ _ w, omega (arith, c.minute-second.ensures, minute_within _ _ w.second))
    ]
