-- A test of each element of a list, by its index.
use mathlib.Core.Path.{◌≡◌, refl, sym, ap, ◌∙◌}
use mathlib.Core.Bool.{Bool, true, false, cond, ◌&&◌}
use mathlib.Core.List.{List, [], ◌∷◌}
use Prim.Native.Nat.{ℕ, zero, suc, ◌+◌, ◌<◌, ◌≤◌}
use native.Mathlib.Numerals.{add-one}
use native.Mathlib.Omega.{arith}
use lib.Dec.{ltb}
use lib.ListN.{length, get_or, drop, drop_of_length-le}
use lib.Seq.{drop-cons}
use borrow.Author.Tests.{lt-ltb, le-ltb}
use Rattle.memory.proofs.Cases.{split_lt}
use Rattle.std.specs.Prelude.{Option, Some, None, SomeIff}
use Rattle.std.specs.List.{range_with_len, list_all, position_or_len, fold}
use Rattle.std.proofs.lemmas.List.Recursion.{is_position_or_len}
use Rattle.scan.specs.Scan.{every, first_index}
use Rattle.scan.proofs.Scan.{and-true, and_assoc}

-- both tests of every element
pub all_both : {A : Type 0} (p q : A → Bool) (xs : List A) → list_all (λ x. p x && q x) xs ≡ (list_all p xs && list_all q xs)
all_both p q [] = refl
all_both p q (x ∷ xs) = rw (all_both p q xs) (four (p x) (q x) (list_all p xs) (list_all q xs))
  where
    four : (a b c d : Bool) → ((a && b) && (c && d)) ≡ ((a && c) && (b && d))
    four true true c d = refl
    four true false true d = refl
    four true false false d = refl
    four false b c d = refl

module _ {A : Type 0} (t : A → Bool) (d : A) (xs : List A) where
  abbrev at : ℕ → Bool
  at k = t (get_or xs k d)

  all_from : (a n : ℕ) → a + n ≡ length xs → list_all at (range_with_len a n) ≡ every t (drop a xs)
  all_from a zero e = let h : length xs ≤ a = omega arith in rw (drop_of_length-le xs h)
  all_from a (suc n) e =
      let h : a < length xs = omega arith in
      let q : a + 1 + n ≡ length xs = omega arith in
      rw (drop-cons xs a d h, all_from (a + 1) n q, add-one)

  first_from : (a n : ℕ) → a + n ≡ length xs → first_index at (range_with_len a n) ≡ first_index t (drop a xs)
  first_from a zero e = let h : length xs ≤ a = omega arith in rw (drop_of_length-le xs h)
  first_from a (suc n) e =
      let h : a < length xs = omega arith in
      let q : a + 1 + n ≡ length xs = omega arith in
      rw (drop-cons xs a d h, first_from (a + 1) n q, add-one)

  pub first_indices : (n : ℕ) → length xs ≡ n → position_or_len at (range_with_len 0 n) ≡ first_index t xs
  first_indices n e = sym (is_position_or_len (first_index at) at refl (λ i is. let e : suc (first_index at is) ≡ 1 + first_index at is = omega arith in ap (cond (at i) 0) e) (range_with_len 0 n)) ∙ first_from 0 n (omega arith)

  pub all_indices : (n : ℕ) → length xs ≡ n → list_all at (range_with_len 0 n) ≡ every t xs
  all_indices n e = all_from 0 n (omega arith)

-- what a search finds
pub found : (n m : ℕ) (r : Option ℕ) → r ≡ cond (ltb n m) (Some n) None → SomeIff r (n < m) n
found n m r e =
    split_lt n m
    (λ h. rw (e, lt-ltb n m h) (h, refl))
    (λ h. rw (e, le-ltb n m h) (λ l. omega arith))

-- a fold by `and`
pub fold_every : {A : Type 0} (t : A → Bool) (b : Bool) (xs : List A) → fold (λ (a : Bool) (x : A). a && t x) b xs ≡ (b && every t xs)
fold_every t b [] = sym (and-true b)
fold_every t b (x ∷ xs) = fold_every t (b && t x) xs ∙ sym (and_assoc b (t x) (every t xs))
