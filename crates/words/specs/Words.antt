-- A number as lanes of k bits, the lowest first; eight bytes as a number.
use Rattle.std.specs.Prelude.{ℕ, zero, suc, ◌+◌, ◌*◌, ◌/◌, ◌%◌, ◌^◌, cond, List, [], ◌∷◌, length, take, nat_le}

-- the m lowest
abbrev pub lanes : ℕ → ℕ → ℕ → List ℕ
lanes k zero y = []
lanes k (suc m) y = y % 2 ^ k ∷ lanes k m (y / 2 ^ k)

-- the bytes of a word
unfoldable pub bytes_of : ℕ → List ℕ
bytes_of y = lanes 8 8 y

-- the first eight bytes of a text, none of one that has fewer: how many, and these bytes
abbrev pub eight_or_none : List ℕ → ℕ
eight_or_none s = cond (nat_le 8 (length s)) 8 0

unfoldable pub first_eight : List ℕ → List ℕ
first_eight s = take (eight_or_none s) s

-- the value of digits in base c, where those before them have value n
abbrev pub in_base : ℕ → ℕ → List ℕ → ℕ
in_base c n [] = n
in_base c n (d ∷ ds) = in_base c (n * c + d) ds
