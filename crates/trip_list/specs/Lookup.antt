-- What the reader and the cursor give.
use Rattle.std.specs.Prelude.{ℕ, ◌+◌, cond, List, [], ◌∷◌, Option, Some, None, Result, Ok, Err, map, length, take, drop, nat_le, nat_lt}
use Rattle.answer.specs.Coded.{Coded, done, coded_refusal, TRIP_FORM, TRIP_ORDER}
use Rattle.answer.specs.Admission.{Test, first_refusal, if_done, test}
use Rattle.memory.specs.Bytes.{part}
use Rattle.answer.specs.declared.Refusal.{Refusal}
use Rattle.trip_list.specs.declared.Trip as code
use Rattle.trip_list.specs.declared.Lookup.{Lookup}
use Rattle.trip_list.specs.Trip.{Trip, trip}
use Rattle.trip_list.specs.Lines.{has_line, first_trip, line_length, driver_start, line_start}
use Rattle.trip_list.specs.List.{parse, trips_of, length_test, list_answer}

-- a trip, and where its driver lies in the list: from an index on, so many bytes
pub record Located : Type 0 where
  pub trip : Trip
  pub driver : ℕ
  pub letters : ℕ

abbrev pub located : Trip → ℕ → Located
located t at = record { trip = t; driver = at; letters = length t.driver }

pub record Given : Type 0 where
  pub answer : Coded
  pub trip : List Located

abbrev pub given : Coded → List Located → Given
given a t = record { answer = a; trip = t }

-- the code's trip, whose driver's bytes lie in the list
abbrev pub in_list : List ℕ → code.Trip → Located
in_list list t = record { trip = trip t.minute t.metres (part list t.driver t.letters); driver = t.driver; letters = t.letters }

-- the code's trip or none
abbrev pub trip_or_none : List ℕ → Option code.Trip → List Located
trip_or_none list None = []
trip_or_none list (Some t) = in_list list t ∷ []

-- the number and the count of each case of the code's result, and its trip or none
abbrev pub looked : List ℕ → Result Lookup Refusal → Given
looked list (Ok l) = given (done l.count) (trip_or_none list l.trip)
looked list (Err r) = given (coded_refusal r) []

-- ---- the reader: a trip by its place; it counts the trips

unfoldable pub read_trip : List ℕ → ℕ → Given
read_trip list place =
    let at = line_start place list in
    given (list_answer list)
    (if_done (list_answer list) (map (λ (t : Trip). located t (at + driver_start (drop at list))) (take 1 (drop place (trips_of (parse list))))) [])

-- ---- the cursor: a trip by the index at which its line starts; the count is the index after that line, and 0 at the end of the list

-- a line in front, with a minute of at least `least`
abbrev pub line_tests : ℕ → List ℕ → List Test
line_tests least s = test (has_line s) TRIP_FORM ∷ test (nat_le least (first_trip s).minute) TRIP_ORDER ∷ []

unfoldable pub next_answer : List ℕ → ℕ → ℕ → Coded
next_answer list at least =
    let s = drop at list in
    first_refusal (length_test list ∷ [])
    (cond (nat_lt at (length list)) (first_refusal (line_tests least s) (done (at + line_length s))) (done 0))

unfoldable pub next_trip : List ℕ → ℕ → ℕ → Given
next_trip list at least =
    let s = drop at list in
    given (next_answer list at least) (cond (nat_lt 0 (next_answer list at least).count) (located (first_trip s) (at + driver_start s) ∷ []) [])
