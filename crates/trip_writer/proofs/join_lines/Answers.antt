use mathlib.Core.Path.{refl, sym, ◌∙◌}
use native.Mathlib.Omega.{arith}
use Rattle.trip_writer.proofs.Joining.{joining_start, joining_own, first_some, second_some}
use Rattle.trip_writer.proofs.join_lines.Goals as goal
use Rattle.trip_writer.proofs.join_lines.Goals.{then-is_some, else-is_some+then-is_some-2}

pub loop-s-init : goal.loop-s-init
loop-s-init c = (joining_start _ _ _ _ _ c.new.ensures c.new-2.ensures (omega arith) (omega arith) (omega arith), refl)

pub join_next-s-requires : goal.join_next-s-requires
join_next-s-requires c =
    let w = c.loop-s.invariant.0 in (
      joining_own _ _ _ _ w,
      elim c.if-is_some.branch [ then-is_some o ↦ first_some _ _ _ _ w (sym c.is_some.ensures ∙ o.if-is_some.true) | else-is_some+then-is_some-2 o ↦ second_some _ _ _ _ w (sym o.is_some-else-is_some.ensures ∙ o.if-is_some-2.true) ],
    )
