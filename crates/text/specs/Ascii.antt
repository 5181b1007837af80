-- Texts as bytes.
use Rattle.std.specs.Prelude.{Bool, ◌&&◌, ◌||◌, List, [], ◌∷◌, ℕ, leb}
use Prim.Native.Char.{code}
use Prim.Native.String.{String}
use Prim.Native.String as Text
use Rattle.text.specs.Decimal.{is_digit}

abbrev pub ascii : String → List ℕ
ascii Text.[] = []
ascii (Text.◌∷◌ c cs) = code c ∷ ascii cs

abbrev pub is_capital : ℕ → Bool
is_capital c = leb (code "A") c && leb c (code "Z")

abbrev pub is_capital_or_digit : ℕ → Bool
is_capital_or_digit c = is_digit c || is_capital c
