-- Where the lines of a list lie.
use Rattle.std.specs.Prelude.{ℕ, zero, suc, ◌+◌, ◌-◌, Bool, ◌&&◌, List, length, take, drop, nat_lt}
use Rattle.scan.specs.Scan.{first_index}
use Rattle.text.specs.Marks.{LF, is_mark}
use Rattle.trip_list.specs.Trip.{Trip, has_form, trip_of}

-- the line in front of some bytes, up to the first LF or to the end
unfoldable pub first_line : List ℕ → List ℕ
first_line s = take (first_index (is_mark LF) s) s

-- it has the form, and is ended by LF
unfoldable pub has_line : List ℕ → Bool
has_line s = nat_lt (first_index (is_mark LF) s) (length s) && has_form (first_line s)

unfoldable pub first_trip : List ℕ → Trip
first_trip s = trip_of (first_line s)

-- its length, with the LF
unfoldable pub line_length : List ℕ → ℕ
line_length s = length (first_line s) + 1

-- where its driver begins; the driver ends the line
unfoldable pub driver_start : List ℕ → ℕ
driver_start s = length (first_line s) - length (first_trip s).driver

-- where the line of a place starts
abbrev pub line_start : ℕ → List ℕ → ℕ
line_start zero s = 0
line_start (suc place) s = line_length s + line_start place (drop (line_length s) s)
