-- A list by its texts: each line is three texts with commas between them and LF at the end.
use Rattle.std.specs.Prelude.{ℕ, ◌+◌, Bool, true, ◌&&◌, List, [], ◌∷◌, nat_le}
use Rattle.text.specs.Decimal.{value}
use Rattle.trip_list.specs.Trip.{Trip, trip, is_number, is_driver, line_of}

pub record Entry : Type 0 where
  pub minute : List ℕ
  pub metres : List ℕ
  pub driver : List ℕ

-- the bytes of these lines
abbrev pub lines_of : List Entry → List ℕ
lines_of [] = []
lines_of (e ∷ es) = line_of e.minute e.metres e.driver (lines_of es)

-- each has the form, and each minute is above the one before
abbrev pub entries_from : ℕ → List Entry → Bool
entries_from least [] = true
entries_from least (e ∷ es) =
    is_number e.minute && (is_number e.metres && (is_driver e.driver && (nat_le least (value e.minute) && entries_from (value e.minute + 1) es)))

abbrev pub entry_trip : Entry → Trip
entry_trip e = trip (value e.minute) (value e.metres) e.driver
