-- Two trip lists joined into one: document 02, §12.
use Rattle.std.specs.Prelude.{Bool, true, cond, ◌&&◌, List, [], ◌∷◌, ℕ, eqb, ltb, leb, length}
use Rattle.answer.specs.Coded.{Coded, done, SHAPE, TRIP_CONFLICT, TRIPS_TOO_LONG}
use Rattle.answer.specs.Admission.{first_refusal, is_done, if_done, test}
use Rattle.memory.specs.Bytes.{overwrite}
use Rattle.scan.specs.Scan.{every, same_bytes}
use Rattle.trip_list.specs.Trip.{Trip, spell}
use Rattle.trip_list.specs.List.{trips_in, greatest_list, list_answer}

-- ---- trips of one minute

-- the same metres and driver
unfoldable pub same_rest : Trip → Trip → Bool
same_rest t u = eqb t.metres u.metres && same_bytes t.driver u.driver

-- of different minutes, or with the same metres and driver
unfoldable pub agreeing : Trip → Trip → Bool
agreeing t u = cond (eqb t.minute u.minute) (same_rest t u) true

-- each trip of one list with each of the other
unfoldable pub agree : List Trip → List Trip → Bool
agree ts us = every (λ t. every (agreeing t) us) ts

-- ---- the join

-- a trip put in minute order; it replaces one of the same minute
abbrev pub insert : Trip → List Trip → List Trip
insert t [] = t ∷ []
insert t (u ∷ us) = cond (ltb t.minute u.minute) (t ∷ u ∷ us) (cond (ltb u.minute t.minute) (u ∷ insert t us) (t ∷ us))

-- each trip of the first list is put among those of the second
abbrev pub join : List Trip → List Trip → List Trip
join [] us = us
join (t ∷ ts) us = insert t (join ts us)

-- ---- of two lists: the trips, and their one spelling

abbrev pub joined_trips : List ℕ → List ℕ → List Trip
joined_trips first second = join (trips_in first) (trips_in second)

abbrev pub joined_text : List ℕ → List ℕ → List ℕ
joined_text first second = spell (joined_trips first second)

-- ---- the call

unfoldable pub join_answer : List ℕ → List ℕ → List ℕ → Coded
join_answer first second buffer =
    first_refusal
    (test (eqb (length buffer) greatest_list) SHAPE
    ∷ test (is_done (list_answer first)) (list_answer first)
    ∷ test (is_done (list_answer second)) (list_answer second)
    ∷ test (agree (trips_in first) (trips_in second)) TRIP_CONFLICT
    ∷ test (leb (length (joined_text first second)) greatest_list) TRIPS_TOO_LONG
    ∷ [])
    (done (length (joined_text first second)))

-- the text at the front of the buffer
unfoldable pub joined : List ℕ → List ℕ → List ℕ → List ℕ
joined first second buffer = if_done (join_answer first second buffer) (overwrite buffer 0 (joined_text first second)) buffer
