-- Proofs by cases on two numbers.
use mathlib.Core.Path.{◌≡◌}
use mathlib.Core.Logic.{◌≢◌}
use Prim.Native.Nat.{ℕ, ◌<◌, ◌≤◌}
use lib.Dec.{ltb, eqb}
use borrow.Author.Tests.{ltb-true, ltb-false, eqb-true, eqb-false}
use borrow.Table.Steps.{cases}

module _ {Q : Type 0} (a b : ℕ) where
  pub split_lt : (a < b → Q) → (b ≤ a → Q) → Q
  split_lt x y = cases (ltb a b) (λ e. x (ltb-true a b e)) (λ e. y (ltb-false a b e))

  pub split_eq : (a ≡ b → Q) → (a ≢ b → Q) → Q
  split_eq x y = cases (eqb a b) (λ e. x (eqb-true a b e)) (λ e. y (eqb-false a b e))
