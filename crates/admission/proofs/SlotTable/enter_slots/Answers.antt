use mathlib.Core.Path.{◌≡◌, sym, ◌∙◌}
use native.Mathlib.Omega.{arith}
use borrow.Author.Rules.{rules}
use Rattle.device.specs.Device.{slot_count}
use Rattle.admission.specs.Tables.{none_cached, Passed}
use Rattle.admission.proofs.Pass.{passed_none, passed_all, passed_table, passed-zero}
use Rattle.admission.proofs.SlotTable.enter_slots.Goals as goal
use Rattle.admission.proofs.SlotTable.enter_slots.Goals.{else-not-eight_free-via-then-not-eight_free+else-not-enter_eight, else-not-eight_free-via-else-not-eight_free}

pub returns-then-all_free : goal.returns-then-all_free
returns-then-all_free c =
    let x = passed-zero c.args.state.now none_cached 0 slot_count (passed_none c.args.state.now) (sym c.all_free.ensures ∙ c.if-all_free.true) in
    (sym (passed_all _ _ x), λ q. c.none_cached.ensures ∙ passed_table _ _ x)

pub loop-k-init : goal.loop-k-init
loop-k-init c = record { passed = rw c.none_cached.ensures (passed_none c.args.state.now); within = search rules; by_eight = search rules }

pub loop-k-preserved : goal.loop-k-preserved
loop-k-preserved c =
    let before = c.loop-k.invariant.passed in
    record {
      passed = elim c.else-not-eight_free.branch [
        | else-not-eight_free-via-then-not-eight_free+else-not-enter_eight w ↦ rw w.self-is (w.enter_eight.ensures.0 w.if-not-enter_eight.false)
        | else-not-eight_free-via-else-not-eight_free w ↦ rw w.self-is (passed-zero c.args.state.now _ c.loop-k.k 8 before (sym c.eight_free.ensures ∙ w.if-not-eight_free.false))
      ];
      within = omega arith;
      by_eight = omega arith;
    }

pub returns : goal.returns
returns c =
    let e : c.loop-k.k ≡ slot_count = omega arith in
    let x : Passed c.args.state.now c.loop-k.self.slots slot_count = rw e at c.loop-k.invariant.passed in
    (sym (passed_all _ _ x), λ q. passed_table _ _ x)
