use mathlib.Core.Path.{sym, ap, ◌∙◌}
use lib.ListN.{length}
use Rattle.state_bytes.specs.Encoding.{slot_set}
use Rattle.admission.specs.Freeing.{is_from}
use Rattle.admission.proofs.Freeing.{freed_here, freed_none, length-slot_set}
use Rattle.admission.proofs.free_eight.Goals as goal
use Rattle.admission.proofs.free_eight.Goals.{then-is_from, else-is_from}

pub loop-i-preserved : goal.loop-i-preserved
loop-i-preserved c =
    let a = c.args in
    let i = c.loop-i.i in
    let state = c.loop-i.state in
    let t = ap (is_from a.file a.n) (sym c.slot_at.ensures) ∙ sym c.is_from.ensures in (
      λ bytes h.
          elim c.if-is_from.branch [
            | then-is_from w ↦ w.state-is ∙ w.set_slot.ensures ∙ ap (slot_set state i) w.free_slot.ensures
                ∙ freed_here a.file a.n i bytes state (c.loop-i.invariant.0 bytes h) (t ∙ w.if-is_from.true)
            | else-is_from w ↦ w.state-is ∙ freed_none a.file a.n i bytes state (c.loop-i.invariant.0 bytes h) (t ∙ w.if-is_from.false)
          ],
      elim c.if-is_from.branch [
        | then-is_from w ↦ ap length w.state-is ∙ ap length w.set_slot.ensures ∙ length-slot_set state i _ ∙ c.loop-i.invariant.1
        | else-is_from w ↦ ap length w.state-is ∙ c.loop-i.invariant.1
      ],
    )
