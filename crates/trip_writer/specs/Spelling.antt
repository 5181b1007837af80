-- What the parts of the writer leave.
use Rattle.std.specs.Prelude.{◌≡◌, List, ℕ, ◌+◌, length, drop}
use Rattle.text.specs.Decimal.{leading_zeros}
use Rattle.trip_list.specs.Trip.{field, spell_trip}
use Rattle.trip_list.specs.Lines.{first_line, first_trip}
use Rattle.trip_writer.specs.declared.Kept as kept

-- the one spelling of the line that starts at an index
unfoldable pub spelled_line : List ℕ → ℕ → List ℕ
spelled_line list at = spell_trip (first_trip (drop at list))

-- the digits that a line's spelling keeps, of the minute and of the metres, begin after the leading zeros
pub record KeptAt (list : List ℕ) (at : ℕ) (k : kept.Kept) : Type 0 where
  pub minute : k.minute ≡ at + leading_zeros (field 0 (first_line (drop at list)))
  pub metres : k.metres ≡ at + (length (field 0 (first_line (drop at list))) + 1) + leading_zeros (field 1 (first_line (drop at list)))
