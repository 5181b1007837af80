-- Numbers that are all 0: their bitwise or is 0.
use mathlib.Core.Path.{◌≡◌, sym, ◌∙◌}
use mathlib.Core.Bool.{◌&&◌}
use mathlib.Core.List.{List, [], ◌∷◌}
use Prim.Native.Nat.{ℕ}
use native.Mathlib.Omega.{arith}
use lib.Dec.{eqb}
use lib.Bits.{bit_or, and_le_r, or_add_and}
use borrow.Author.Tests.{ne_eqb}
use Rattle.memory.proofs.Cases.{split_eq}
use Rattle.scan.specs.Scan.{every}
use Rattle.std.specs.List.{fold}
use Rattle.scan.proofs.Scan.{and-true, and_assoc}

-- the bitwise or of two is 0 where both are
pub zero_or : (a b : ℕ) → eqb (bit_or a b) 0 ≡ eqb a 0 && eqb b 0
zero_or a b = split_eq a 0 (λ e. rw e) (λ n. rw (ne_eqb a 0 n) (ne_eqb (bit_or a b) 0 (λ e. n (omega (arith, or_add_and a b, and_le_r a b)))))

-- that of a list, where all of it are
pub zero-fold : (a : ℕ) (xs : List ℕ) → eqb (fold bit_or a xs) 0 ≡ eqb a 0 && every (λ b. eqb b 0) xs
zero-fold a [] = sym (and-true (eqb a 0))
zero-fold a (x ∷ xs) = zero-fold (bit_or a x) xs ∙ rw zero_or (sym (and_assoc (eqb a 0) (eqb x 0) (every (λ b. eqb b 0) xs)))
