-- One trip and its line: document 02, §1.
use Rattle.std.specs.Prelude.{ℕ, Bool, List, [], ◌∷◌, ◌++◌, length, ◌==◌, nat_le, slice_index_or}
use Rattle.scan.specs.Scan.{all_of, every}
use Rattle.text.specs.Ascii.{is_capital_or_digit}
use Rattle.text.specs.Decimal.{value, is_numeral, decimal}
use Rattle.text.specs.Marks.{LF, comma, fields}

pub record Trip : Type 0 where
  pub minute : ℕ
  pub metres : ℕ
  pub driver : List ℕ

abbrev pub trip : ℕ → ℕ → List ℕ → Trip
trip minute metres driver = record { minute = minute; metres = metres; driver = driver }

-- ---- the fields

abbrev pub greatest_number : ℕ
greatest_number = 4294967295

-- minutes and metres
abbrev pub is_number : List ℕ → Bool
is_number = is_numeral 10 greatest_number

-- drivers: capital letters and digits, at least one and at most sixteen
unfoldable pub is_driver_byte : ℕ → Bool
is_driver_byte = is_capital_or_digit

unfoldable pub is_driver : List ℕ → Bool
is_driver text = all_of (nat_le 1 (length text) ∷ nat_le (length text) 16 ∷ every is_driver_byte text ∷ [])

-- ---- a line, without its LF: three fields

abbrev pub field : ℕ → List ℕ → List ℕ
field k line = slice_index_or (fields line) k []

unfoldable pub has_form : List ℕ → Bool
has_form line = all_of ((length (fields line) == 3) ∷ is_number (field 0 line) ∷ is_number (field 1 line) ∷ is_driver (field 2 line) ∷ [])

unfoldable pub trip_of : List ℕ → Trip
trip_of line = trip (value (field 0 line)) (value (field 1 line)) (field 2 line)

-- ---- the one spelling, with its LF

-- a line of three texts, before other bytes
abbrev pub line_of : List ℕ → List ℕ → List ℕ → List ℕ → List ℕ
line_of minute metres driver rest = minute ++ (comma ∷ metres ++ (comma ∷ driver ++ (LF ∷ rest)))

unfoldable pub spell_trip : Trip → List ℕ
spell_trip t = line_of (decimal t.minute) (decimal t.metres) t.driver []

abbrev pub spell : List Trip → List ℕ
spell [] = []
spell (t ∷ ts) = spell_trip t ++ spell ts

-- a trip that has a line
unfoldable pub in_limits : Trip → Bool
in_limits t = all_of (nat_le t.minute greatest_number ∷ nat_le t.metres greatest_number ∷ is_driver t.driver ∷ [])
