-- Tests over a list.
use Rattle.std.specs.Prelude.{ℕ, zero, suc, Bool, true, false, cond, ◌&&◌, List, [], ◌∷◌, eqb}

-- every test of the list holds
abbrev pub all_of : List Bool → Bool
all_of [] = true
all_of (b ∷ bs) = b && all_of bs

-- the test holds of every element
abbrev pub every : {A : Type 0} → (A → Bool) → List A → Bool
every t [] = true
every t (x ∷ xs) = t x && every t xs

-- the test holds of every number below n
abbrev pub every_below : ℕ → (ℕ → Bool) → Bool
every_below zero t = true
every_below (suc n) t = every_below n t && t n

-- the index of the first element of which the test holds, or the length of the list
abbrev pub first_index : {A : Type 0} → (A → Bool) → List A → ℕ
first_index t [] = zero
first_index t (x ∷ xs) = cond (t x) zero (suc (first_index t xs))

-- two lists are the same
abbrev pub same_bytes : List ℕ → List ℕ → Bool
same_bytes [] [] = true
same_bytes [] (y ∷ ys) = false
same_bytes (x ∷ xs) [] = false
same_bytes (x ∷ xs) (y ∷ ys) = eqb x y && same_bytes xs ys
