-- Decimal numbers.
use Rattle.std.specs.Prelude.{Bool, cond, ◌&&◌, List, [], ◌∷◌, ◌++◌, ℕ, zero, suc, ◌+◌, ◌-◌, ◌*◌, ◌/◌, ◌%◌, ◌^◌, eqb, ltb, leb, length}
use Prim.Native.Char.{code}
use Rattle.scan.specs.Scan.{all_of, every}

abbrev pub is_digit : ℕ → Bool
is_digit c = leb (code "0") c && leb c (code "9")

abbrev pub is_zero : ℕ → Bool
is_zero c = eqb c (code "0")

-- the value of decimal digits, where those before them have value n
abbrev pub value_from : ℕ → List ℕ → ℕ
value_from n [] = n
value_from n (c ∷ cs) = value_from (10 * n + (c - code "0")) cs

abbrev pub value : List ℕ → ℕ
value = value_from 0

-- 1 to `most` digits, whose value is at most the limit
unfoldable pub is_numeral : ℕ → ℕ → List ℕ → Bool
is_numeral most limit text = all_of (leb 1 (length text) ∷ leb (length text) most ∷ every is_digit text ∷ leb (value text) limit ∷ [])

-- the zeros before a number; its last digit is none of them
abbrev pub leading_zeros : List ℕ → ℕ
leading_zeros [] = 0
leading_zeros (c ∷ []) = 0
leading_zeros (c ∷ d ∷ ds) = cond (is_zero c) (suc (leading_zeros (d ∷ ds))) 0

-- the decimal digits of n, with no zero before them; k is at least their number
abbrev pub digits_in : ℕ → ℕ → List ℕ
digits_in zero n = []
digits_in (suc k) n = cond (ltb n 10) ((code "0" + n) ∷ []) (digits_in k (n / 10) ++ ((code "0" + n % 10) ∷ []))

-- 20 digits serve every number below 10²⁰
abbrev pub digits_bound : ℕ → ℕ
digits_bound n = cond (ltb n (10 ^ 20)) 20 (suc n)

unfoldable pub decimal : ℕ → List ℕ
decimal n = digits_in (digits_bound n) n
