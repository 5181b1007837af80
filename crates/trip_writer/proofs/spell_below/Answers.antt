use native.Mathlib.Omega.{arith}
use Rattle.trip_writer.proofs.Joining.{placed_next, advanced_next, place_on}
use Rattle.trip_writer.proofs.spell_below.Goals as goal

pub loop-side-smaller : goal.loop-side-smaller
loop-side-smaller c =
    let s = c.in-Some in omega (arith, place_on _ _ _ _ c.loop-side.invariant.0 s.line s.is _ c.after-side.ensures)

pub loop-side-preserved : goal.loop-side-preserved
loop-side-preserved c =
    let i = c.loop-side.invariant in
    let s = c.in-Some in
    let p = c.put_within-end in (
      placed_next _ _ _ _ _ _ _ _ _ i.0 i.1 s.line s.is c.if-line-limit.true (omega (arith, p.auto)) _ p.ensures.0 p.ensures.1 _ c.after-side.ensures,
      advanced_next _ _ _ _ _ _ _ _ _ i.0 i.1 s.line s.is c.if-line-limit.true (omega (arith, p.auto)) _ p.ensures.0 p.ensures.1 _ c.after-side.ensures,
      i.2,
    )
