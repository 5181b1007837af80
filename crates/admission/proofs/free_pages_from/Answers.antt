use mathlib.Core.Path.{refl, sym, ◌∙◌}
use native.Mathlib.Omega.{arith}
use borrow.Author.Rules.{rules}
use Rattle.admission.specs.Freeing.{freed_slots}
use Rattle.admission.proofs.Freeing.{freed_zero}
use Rattle.admission.proofs.free_pages_from.Goals as goal
use Rattle.admission.proofs.free_pages_from.Goals.{then-not-eight_free, else-not-eight_free}

pub loop-k-init : goal.loop-k-init
unfolding freed_slots
loop-k-init c = record { freed = refl; within = search rules; by_eight = search rules }

pub loop-k-preserved : goal.loop-k-preserved
loop-k-preserved c =
    let a = c.args in
    let before = c.loop-k.invariant.freed in
    record {
      freed = elim c.if-not-eight_free.branch [
        | then-not-eight_free w ↦ w.state-is ∙ w.free_eight.ensures a.state.now before
        | else-not-eight_free w ↦ w.state-is ∙ freed_zero a.file a.n a.state.now c.loop-k.state c.loop-k.k 8 (sym c.eight_free.ensures ∙ w.if-not-eight_free.false) before
      ];
      within = omega arith;
      by_eight = omega arith;
    }
