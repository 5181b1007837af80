-- What the parts of the parser say: the number of a field, and the numbers of fields.
use Rattle.std.specs.Prelude.{Bool, List, map, ℕ, ◌≤◌, Option, None, Some}
use Rattle.std.specs.Bool.{then_some}
use Rattle.session_line.specs.declared.Request.{Request}
use Rattle.session_line.specs.declared.Request.TheVariants.{Format, Mount, Write, Truncate, Sync, Read}
use Rattle.text.specs.Decimal.{value}
use Rattle.text.specs.Marks.{comma, is_mark}
use Rattle.session_line.specs.Grammar.{greatest_write, greatest_read, is_number, numbers_fit}

abbrev pub is_comma : ℕ → Bool
is_comma = is_mark comma

-- the value of a field that is a number of at most the limit
unfoldable pub number : ℕ → List ℕ → Option ℕ
number limit text = then_some (is_number limit text) (value text)

-- the values of fields that are numbers of these limits
unfoldable pub numbers : List ℕ → List (List ℕ) → Option (List ℕ)
numbers limits ts = then_some (numbers_fit limits ts) (map value ts)

-- a request to write or read is within the limits of its form
abbrev pub Within : Option Request → Type 0
Within None = Unit {0}
Within (Some (Format budget)) = Unit {0}
Within (Some (Mount budget)) = Unit {0}
Within (Some (Write file position count byte)) = count ≤ greatest_write
Within (Some (Truncate file size)) = Unit {0}
Within (Some (Sync file budget)) = Unit {0}
Within (Some (Read file position count)) = count ≤ greatest_read
