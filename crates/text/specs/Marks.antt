-- Texts between marks.
use Rattle.std.specs.Prelude.{Bool, cond, List, [], ◌∷◌, ℕ, eqb}
use Prim.Native.Char.{code}

abbrev pub LF : ℕ
LF = code "\n"

abbrev pub comma : ℕ
comma = code ","

abbrev pub is_mark : ℕ → ℕ → Bool
is_mark mark c = eqb c mark

-- a byte before the first of these texts
abbrev pub in_first : ℕ → List (List ℕ) → List (List ℕ)
in_first c [] = (c ∷ []) ∷ []
in_first c (t ∷ ts) = (c ∷ t) ∷ ts

-- bytes parted at a mark, where the end of the bytes counts as the texts `last`
abbrev pub parted_at : ℕ → List (List ℕ) → List ℕ → List (List ℕ)
parted_at mark last [] = last
parted_at mark last (c ∷ cs) = cond (is_mark mark c) ([] ∷ parted_at mark last cs) (in_first c (parted_at mark last cs))

-- n marks part n + 1 texts
abbrev pub parts : ℕ → List ℕ → List (List ℕ)
parts mark = parted_at mark ([] ∷ [])

-- the texts after one that ends here: none at the end, or those after the mark
abbrev pub rest_parts : ℕ → List ℕ → List (List ℕ)
rest_parts mark [] = []
rest_parts mark (c ∷ cs) = parts mark cs

-- fields stand between commas; nothing is quoted
abbrev pub fields : List ℕ → List (List ℕ)
fields = parts comma
