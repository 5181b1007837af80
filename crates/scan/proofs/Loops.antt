-- Loops over a list, one turn at a time: what the turns so far have shown.
use mathlib.Core.Path.{◌≡◌, refl, sym, ap, ◌∙◌}
use mathlib.Core.Bool.{Bool, true, false, ◌&&◌, and-true, and-false}
use mathlib.Core.List.{List, [], ◌∷◌, map, ◌++◌, append-nil}
use Prim.Native.Nat.{ℕ, zero, suc, ◌+◌, ◌<◌, ◌≤◌}
use native.Mathlib.Nat.{not-suc-le-zero, le_of_suc-le-suc}
use native.Mathlib.Omega.{arith}
use native.Mathlib.Numerals.{add-one}
use lib.ListN.{length, get_or, set, drop, drop_of_length-le, take}
use lib.Seq.{drop-cons, take_all}
use Rattle.scan.specs.Scan.{every, every_below, first_index}
use Rattle.scan.proofs.Scan.{is_false, true-not-false, every_below_at}

pub length_mapped : (X Y : Type 0) (f : X → Y) (l : List X) (n : ℕ) → length (map f l) ≡ n → length l ≡ n
length_mapped X Y f [] n e = e
length_mapped X Y f (x ∷ xs) zero e = absurd (omega arith)
length_mapped X Y f (x ∷ xs) (suc n) e = ap suc (length_mapped X Y f xs n (omega arith))

-- ---- a search

-- none before i passes: what is looked for is where it is from i on
pub record Searched {A : Type 0} (t : A → Bool) (xs : List A) (i : ℕ) : Type 0 where
  pub so_far : first_index t xs ≡ i + first_index t (drop i xs)

module _ {A : Type 0} {t : A → Bool} {xs : List A} where
  pub searched_none : Searched t xs 0
  searched_none = record { so_far = omega arith }

  module _ (d : A) {i : ℕ} (s : Searched t xs i) where
    pub searched_here : i < length xs → t (get_or xs i d) ≡ true → i ≡ first_index t xs
    searched_here h e = sym (s.so_far ∙ rw (drop-cons xs i d h, e) (omega arith))

    pub searched_next : i < length xs → t (get_or xs i d) ≡ false → Searched t xs (i + 1)
    searched_next h e = record { so_far = s.so_far ∙ rw (drop-cons xs i d h, e, add-one) (omega arith) }

    pub searched_end : (n : ℕ) → length xs ≡ n → i ≡ n → n ≡ first_index t xs
    searched_end n h e = let k : length xs ≤ i = omega arith in sym (s.so_far ∙ rw (drop_of_length-le xs k) (omega arith))

-- ---- a check of every element

-- every element before i passes
pub record Checked {A : Type 0} (t : A → Bool) (xs : List A) (i : ℕ) : Type 0 where
  pub so_far : every t xs ≡ every t (drop i xs)

module _ {A : Type 0} {t : A → Bool} {xs : List A} where
  pub checked_none : Checked t xs 0
  checked_none = record { so_far = refl }

  module _ (d : A) {i : ℕ} (s : Checked t xs i) where
    pub checked_stop : i < length xs → t (get_or xs i d) ≡ false → false ≡ every t xs
    checked_stop h e = sym (s.so_far ∙ rw (drop-cons xs i d h, e))

    pub checked_next : i < length xs → t (get_or xs i d) ≡ true → Checked t xs (i + 1)
    checked_next h e = record { so_far = s.so_far ∙ rw (drop-cons xs i d h, e, add-one) }

    pub checked_end : length xs ≤ i → true ≡ every t xs
    checked_end h = sym (s.so_far ∙ rw (drop_of_length-le xs h))

-- ---- a check that goes to the end

-- b: every element before i passes
pub record Flagged {A : Type 0} (t : A → Bool) (xs : List A) (i : ℕ) (b : Bool) : Type 0 where
  pub so_far : every t xs ≡ b && every t (drop i xs)

module _ {A : Type 0} {t : A → Bool} {xs : List A} where
  pub flagged-none : Flagged t xs 0 true
  flagged-none = record { so_far = refl }

  module _ (d : A) {i : ℕ} {b : Bool} (s : Flagged t xs i b) where
    pub flagged_fails : i < length xs → t (get_or xs i d) ≡ false → Flagged t xs (i + 1) false
    flagged_fails h e = record { so_far = s.so_far ∙ rw (drop-cons xs i d h, e) (and-false b) }

    pub flagged-next : i < length xs → t (get_or xs i d) ≡ true → Flagged t xs (i + 1) b
    flagged-next h e = record { so_far = s.so_far ∙ rw (drop-cons xs i d h, e, add-one) }

    pub flagged_end : length xs ≤ i → b ≡ every t xs
    flagged_end h = sym (s.so_far ∙ rw (drop_of_length-le xs h) (and-true b))

-- ---- a check of every number

-- every number below i passes
pub record Below (t : ℕ → Bool) (i : ℕ) : Type 0 where
  pub so_far : every_below i t ≡ true

module _ {t : ℕ → Bool} where
  pub below_none : Below t 0
  below_none = record { so_far = refl }

  module _ {i : ℕ} (s : Below t i) where
    pub below-stop : (n : ℕ) → i < n → t i ≡ false → false ≡ every_below n t
    below-stop n h e = sym (is_false (every_below n t) (λ q. true-not-false (t i) (every_below_at n t q i h) e))

    pub below_next : t i ≡ true → Below t (i + 1)
    below_next e = record { so_far = rw (add-one, s.so_far, e) }

    pub below_end : (n : ℕ) → i ≡ n → true ≡ every_below n t
    below_end n e = rw (← e) (sym s.so_far)

-- ---- a check of every number that goes to the end

-- b: every number below i passes
pub record FlaggedBelow (t : ℕ → Bool) (i : ℕ) (b : Bool) : Type 0 where
  pub so_far : b ≡ every_below i t

module _ {t : ℕ → Bool} where
  pub flagged-below-none : FlaggedBelow t 0 true
  flagged-below-none = record { so_far = refl }

  module _ {i : ℕ} {b : Bool} (s : FlaggedBelow t i b) where
    pub flagged-below-next : FlaggedBelow t (i + 1) (b && t i)
    flagged-below-next = record { so_far = rw (add-one, ← s.so_far) }

    pub flagged-below_fails : t i ≡ false → FlaggedBelow t (i + 1) false
    flagged-below_fails e = record { so_far = rw (add-one, e) (sym (and-false (every_below i t))) }

    pub flagged-below-holds : t i ≡ true → FlaggedBelow t (i + 1) b
    flagged-below-holds e = record { so_far = rw (add-one, e) (s.so_far ∙ sym (and-true (every_below i t))) }

    pub flagged-below_end : (n : ℕ) → i ≡ n → b ≡ every_below n t
    flagged-below_end n e = rw (← e) s.so_far

-- ---- a list mapped in place

pub map_more : {A : Type 0} (g : A → A) (i : ℕ) (xs : List A) (d : A) → i < length xs → set (map g (take i xs) ++ drop i xs) i (g (get_or xs i d)) ≡ map g (take (i + 1) xs) ++ drop (i + 1) xs
map_more {A} g i xs d h = rw add-one (go i xs h)
  where
    go : (i : ℕ) (xs : List A) → i < length xs → set (map g (take i xs) ++ drop i xs) i (g (get_or xs i d)) ≡ map g (take (suc i) xs) ++ drop (suc i) xs
    go i [] h = absurd (not-suc-le-zero h)
    go zero (x ∷ xs) h = refl
    go (suc i) (x ∷ xs) h = ap (λ (l : List A). g x ∷ l) (go i xs (le_of_suc-le-suc h))

pub map-done : {A : Type 0} (g : A → A) (i : ℕ) (xs : List A) → length xs ≤ i → map g (take i xs) ++ drop i xs ≡ map g xs
map-done g i xs h = rw (take_all i xs h, drop_of_length-le xs h, append-nil)
