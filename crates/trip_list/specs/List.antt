-- A list of trips: document 02, §1.
use Rattle.std.specs.Prelude.{◌≡◌, ℕ, ◌+◌, Bool, true, cond, ◌&&◌, List, [], ◌∷◌, length, ◌==◌, nat_le}
use Rattle.answer.specs.Coded.{Coded, done, SHAPE, RANGE, TRIP_FORM, TRIP_ORDER}
use Rattle.answer.specs.Admission.{Test, first_refusal, if_done, test}
use Rattle.memory.specs.Bytes.{overwrite}
use Rattle.text.specs.Marks.{LF, parts}
use Rattle.trip_list.specs.Trip.{Trip, has_form, trip_of, spell, in_limits}

-- its trips, or the refusal of its first bad line
pub data Parsed : Type 0 where
  trips : List Trip → Parsed
  refusal : Coded → Parsed

-- a trip before those of the rest
abbrev pub before : Trip → Parsed → Parsed
before t (trips ts) = trips (t ∷ ts)
before t (refusal a) = refusal a

-- texts between LFs: each is a line, in order, with a minute of at least `least`, and nothing stands after the last LF
abbrev pub parse_lines : ℕ → List (List ℕ) → Parsed
parse_lines least [] = trips []
parse_lines least (last ∷ []) = cond (length last == 0) (trips []) (refusal TRIP_FORM)
parse_lines least (line ∷ next ∷ more) =
    cond (has_form line)
    (cond (nat_le least (trip_of line).minute) (before (trip_of line) (parse_lines ((trip_of line).minute + 1) (next ∷ more))) (refusal TRIP_ORDER))
    (refusal TRIP_FORM)

unfoldable pub parse_from : ℕ → List ℕ → Parsed
parse_from least s = parse_lines least (parts LF s)

unfoldable pub parse : List ℕ → Parsed
parse list = parse_from 0 list

abbrev pub trips_of : Parsed → List Trip
trips_of (trips ts) = ts
trips_of (refusal a) = []

-- these are trips, and no refusal
abbrev pub Trips : Parsed → Type 0
Trips p = p ≡ trips (trips_of p)

-- the trips of a list, none where it is refused
abbrev pub trips_in : List ℕ → List Trip
trips_in list = trips_of (parse list)

-- ---- the answer for a list: RANGE, 10, 11, or the number of its trips

abbrev pub greatest_list : ℕ
greatest_list = 4096

abbrev pub answer_of : Parsed → Coded
answer_of (trips ts) = done (length ts)
answer_of (refusal a) = a

abbrev pub length_test : List ℕ → Test
length_test list = test (nat_le (length list) greatest_list) RANGE

unfoldable pub list_answer : List ℕ → Coded
list_answer list = first_refusal (length_test list ∷ []) (answer_of (parse list))

-- ---- the writer: the one spelling at the front of a buffer

abbrev pub spelling : List ℕ → List ℕ
spelling list = spell (trips_in list)

unfoldable pub write_answer : List ℕ → List ℕ → Coded
write_answer list buffer =
    first_refusal (test (length buffer == greatest_list) SHAPE ∷ []) (if_done (list_answer list) (done (length (spelling list))) (list_answer list))

unfoldable pub written : List ℕ → List ℕ → List ℕ
written list buffer = if_done (write_answer list buffer) (overwrite buffer 0 (spelling list)) buffer

-- ---- trips that a list can mean: each within its limits, minutes that rise, the first at least `least`

abbrev pub valid_from : ℕ → List Trip → Bool
valid_from least [] = true
valid_from least (t ∷ ts) = nat_le least t.minute && (in_limits t && valid_from (t.minute + 1) ts)

abbrev pub valid : List Trip → Bool
valid = valid_from 0
