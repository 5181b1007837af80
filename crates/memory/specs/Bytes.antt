-- Runs of bytes: zeros, a part of a list, and a list with another laid over it.
use Rattle.std.specs.Prelude.{ℕ, zero, suc, Bool, List, [], ◌∷◌, ltb, take, drop, replicate}

abbrev pub is_byte : ℕ → Bool
is_byte n = ltb n 256

abbrev pub zeros : ℕ → List ℕ
zeros n = replicate n 0

-- the elements of xs from index a on, n of them where there are as many
abbrev pub part : List ℕ → ℕ → ℕ → List ℕ
part xs a n = take n (drop a xs)

-- xs with its elements from index a on replaced by ys, as far as xs goes
abbrev pub overwrite : List ℕ → ℕ → List ℕ → List ℕ
overwrite [] a ys = []
overwrite (x ∷ xs) (suc a) ys = x ∷ overwrite xs a ys
overwrite (x ∷ xs) zero [] = x ∷ xs
overwrite (x ∷ xs) zero (y ∷ ys) = y ∷ overwrite xs zero ys
