-- The line at an index of a list, as `line_at` gives it.
use Rattle.std.specs.Prelude.{ℕ, ◌+◌, List, [], ◌∷◌, Result, Ok, Err, length, drop}
use Rattle.answer.specs.Coded.{Coded, done, coded_refusal}
use Rattle.answer.specs.Admission.{first_refusal, if_done}
use Rattle.answer.specs.declared.Refusal.{Refusal}
use Rattle.trip_list.specs.declared.Line as line
use Rattle.trip_list.specs.Trip.{field}
use Rattle.trip_list.specs.Lines.{first_line, first_trip, line_length, driver_start}
use Rattle.trip_list.specs.Lookup.{line_tests}

-- an answer, and the line or none
pub record Told : Type 0 where
  pub answer : Coded
  pub line : List line.Line

abbrev pub tell : Coded → List line.Line → Told
tell a l = record { answer = a; line = l }

-- the number and the count of each case of the code's result, and its line or none
abbrev pub told : Result line.Line Refusal → Told
told (Ok l) = tell (done l.length) (l ∷ [])
told (Err r) = tell (coded_refusal r) []

-- the line in front of some bytes: its numbers, where in it the metres and the driver begin, and its length
unfoldable pub line_of_front : List ℕ → line.Line
line_of_front s = record {
  minute = (first_trip s).minute;
  metres = (first_trip s).metres;
  second = length (field 0 (first_line s)) + 1;
  driver = driver_start s;
  letters = length (first_trip s).driver;
  length = line_length s;
}

-- the line that starts at an index, with a minute of at least `least`; it counts the bytes of the line
unfoldable pub line_given : List ℕ → ℕ → ℕ → Told
line_given list at least =
    let s = drop at list in
    let a = first_refusal (line_tests least s) (done (line_length s)) in
    tell a (if_done a (line_of_front s ∷ []) [])
