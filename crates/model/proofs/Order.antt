-- The order of media writes shows in what budgets leave, and in nothing else.
use mathlib.Core.Path.{◌≡◌, refl, sym, ap, ◌∙◌}
use mathlib.Core.List.{List}
use Prim.Native.Nat.{ℕ}
use native.Mathlib.Omega.{arith}
use lib.Dec.{ltb}
use lib.ListN.{length, take}
use borrow.Table.Steps.{cases}
use Rattle.answer.specs.Coded.{Coded, done}
use Rattle.media.specs.Write.{MediaWrite, apply_all}
use Rattle.device.specs.declared.CacheState.{CacheState}
use Rattle.device.specs.Device.{Device}
use Rattle.device.specs.Admission.{Result}
use Rattle.device.specs.Plan.{under_budget}
use Rattle.device.proofs.Plan.{budget_by}
use Rattle.model.specs.Order.{OrderShows}

module _ (P : ℕ) (s : CacheState) (d : Device) where
  -- the media that a budget leaves
  leaves : (budget : ℕ) (ws : List MediaWrite) → (under_budget P budget ws s d).left.media ≡ apply_all P d.media (take budget ws)
  unfolding under_budget
  leaves budget ws = cases (ltb budget (length ws)) (λ e. rw e) (λ e. rw e)

  -- the budget that pays for all of them
  all_paid : (ws : List MediaWrite) → (under_budget P (length ws) ws s d).answer ≡ done (length ws)
  all_paid ws = budget_by P (length ws) ws s d (λ r. r.answer ≡ done (length ws)) (λ l. absurd (omega arith)) (λ l. refl)

  -- done with as many only where there are as many
  as_many : (budget : ℕ) (vs : List MediaWrite) (n : ℕ) → (under_budget P budget vs s d).answer ≡ done n → n ≡ length vs
  as_many budget vs n =
      budget_by P budget vs s d (λ r. r.answer ≡ done n → n ≡ length vs)
      (λ l e. let z : 9 ≡ 0 = ap (λ (a : Coded). a.number) e in absurd (omega arith))
      (λ l e. sym (ap (λ (a : Coded). a.count) e))

pub order-shows : (P : ℕ) → OrderShows P
unfolding under_budget
order-shows P ws vs s d = (
  λ same. (
    as_many P s d (length ws) vs (length ws) (sym (ap (λ (r : Result Device). r.answer) (same (length ws))) ∙ all_paid P s d ws),
    λ k. sym (leaves P s d k ws) ∙ ap (λ (r : Result Device). r.left.media) (same k) ∙ leaves P s d k vs,
  ),
  λ h budget. rw (h.0, h.1 budget),
)
