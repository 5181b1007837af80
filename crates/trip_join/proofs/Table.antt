-- Worked pairs of lists, computed.
use mathlib.Core.Path.{◌≡◌, refl}
use mathlib.Core.List.{List, [], ◌∷◌, ◌++◌, map}
use Prim.Native.Nat.{ℕ, zero, suc, ◌+◌}
use Prim.Native.String.{String}
use lib.ListN.{length, drop, replicate}
use Rattle.answer.specs.Coded.{Coded, done, SHAPE, RANGE, TRIP_FORM, TRIP_ORDER, TRIP_CONFLICT, TRIPS_TOO_LONG}
use Rattle.text.specs.Ascii.{ascii}
use Rattle.text.specs.Decimal.{is_numeral, decimal}
use Rattle.trip_list.specs.Trip.{Trip, trip, is_driver_byte, is_driver, has_form, trip_of, spell_trip, spell}
use Rattle.trip_list.specs.List.{parse_from, parse, list_answer}
use Rattle.trip_join.specs.Join.{same_rest, agreeing, agree, join_answer, joined}

-- a byte that no spelling has, n times
abbrev nines : ℕ → List ℕ
nines n = replicate n 9

-- two lists and a buffer, the answer to their join, and what is written
pub record Row : Type 0 where
  pub first : List ℕ
  pub second : List ℕ
  pub buffer : List ℕ
  pub answer : Coded
  pub text : List ℕ

abbrev good : String → String → String → Row
good first second text = record { first = ascii first; second = ascii second; buffer = nines 4096; answer = done (length (ascii text)); text = ascii text }

abbrev refused_row : List ℕ → List ℕ → List ℕ → Coded → Row
refused_row first second buffer a = record { first = first; second = second; buffer = buffer; answer = a; text = [] }

abbrev bad : String → String → Coded → Row
bad first second a = refused_row (ascii first) (ascii second) (nines 4096) a

abbrev pub rows : List Row
rows =
    good "" "" ""
    ∷ good "7,12,A\n" "" "7,12,A\n"
    ∷ good "" "007,12,A\n" "7,12,A\n"
    ∷ good "1,5,A\n3,5,A\n" "2,5,B\n4,5,B\n" "1,5,A\n2,5,B\n3,5,A\n4,5,B\n"
    ∷ good "3,5,A\n4,5,A\n" "1,5,B\n2,5,B\n" "1,5,B\n2,5,B\n3,5,A\n4,5,A\n"
    ∷ good "10,5,A\n" "9,5,B\n" "9,5,B\n10,5,A\n"
    ∷ good "7,12,A\n" "7,12,A\n" "7,12,A\n"
    ∷ good "007,12,A\n8,1,B\n" "7,0012,A\n" "7,12,A\n8,1,B\n"
    ∷ good "1,5,A\n7,12,A\n" "007,0012,A\n9,5,B\n" "1,5,A\n7,12,A\n9,5,B\n"
    ∷ good "7,12,A\n" "8,13,B\n" "7,12,A\n8,13,B\n"
    ∷ bad "7,12,A\n" "7,13,A\n" TRIP_CONFLICT
    ∷ bad "7,12,A\n" "7,12,B\n" TRIP_CONFLICT
    ∷ bad "7,12,A\n" "7,12,AB\n" TRIP_CONFLICT
    ∷ bad "7,12,AB\n" "7,12,A\n" TRIP_CONFLICT
    ∷ bad "7,12,A\n" "07,12,01\n" TRIP_CONFLICT
    ∷ bad "1,5,A\n7,12,A\n" "2,5,A\n7,13,A\n8,5,A\n" TRIP_CONFLICT
    ∷ bad "7,12,A\n" "7,13,A\n8,5,a\n" TRIP_FORM
    ∷ bad "7,12,A\n" "7,13,A\n6,5,A\n" TRIP_ORDER
    ∷ bad "7,12,A\n8,5,a\n" "7,13,A\n" TRIP_FORM
    ∷ bad "7,12,A\n6,5,A\n" "7,13" TRIP_ORDER
    ∷ bad "7,12" "7,13,A\n6,5,A\n" TRIP_FORM
    ∷ refused_row (ascii "7,12") (ascii "7,13,A\n6,5,A\n") (nines 4095) SHAPE
    ∷ refused_row (ascii "7,12,A\n") (nines 4097) (nines 4097) SHAPE
    ∷ refused_row (ascii "7,12") (nines 4097) (nines 4096) TRIP_FORM
    ∷ refused_row (nines 4097) (ascii "7,12") (nines 4096) RANGE
    ∷ refused_row (ascii "7,12,A\n") (nines 4097) (nines 4096) RANGE
    ∷ []

-- the answer of each row
pub rows_answered : map (λ (r : Row). join_answer r.first r.second r.buffer) rows ≡ map (λ (r : Row). r.answer) rows
unfolding join_answer list_answer parse parse_from has_form trip_of is_numeral is_driver is_driver_byte spell_trip decimal same_rest agreeing agree
rows_answered = refl

-- the whole buffer: the text and the bytes after it as they came, and of a refused row the buffer
pub rows_written : map (λ (r : Row). joined r.first r.second r.buffer) rows ≡ map (λ (r : Row). r.text ++ drop (length r.text) r.buffer) rows
unfolding joined join_answer list_answer parse parse_from has_form trip_of is_numeral is_driver is_driver_byte spell_trip decimal same_rest agreeing agree
rows_written = refl

-- ---- at the limit

abbrev lines_from : ℕ → ℕ → List Trip → List Trip
lines_from zero minute last = last
lines_from (suc n) minute last = trip minute 4294967295 (ascii "ABCDEFGHIJKLMNOP") ∷ lines_from n (minute + 2) last

-- lines of 39 bytes, at every other minute, and a last one with metres of one digit
abbrev list_of : ℕ → ℕ → ℕ → String → List ℕ
list_of lines minute last driver = spell (lines_from lines minute (trip last 0 (ascii driver) ∷ []))

-- a join of 4,096 bytes is done, and one of 4,097 refused
pub limit-done : join_answer (list_of 52 1000000000 1000000200 "ABCDEF") (list_of 52 1000000001 1000000201 "ABCDEF") (nines 4096) ≡ done 4096
unfolding join_answer list_answer parse parse_from has_form trip_of is_numeral is_driver is_driver_byte spell_trip decimal same_rest agreeing agree
limit-done = refl

pub limit-passed : join_answer (list_of 52 1000000000 1000000200 "ABCDEF") (list_of 52 1000000001 1000000201 "ABCDEFG") (nines 4096) ≡ TRIPS_TOO_LONG
unfolding join_answer list_answer parse parse_from has_form trip_of is_numeral is_driver is_driver_byte spell_trip decimal same_rest agreeing agree
limit-passed = refl

-- which leaves the buffer as it came
pub limit-kept : joined (list_of 52 1000000000 1000000200 "ABCDEF") (list_of 52 1000000001 1000000201 "ABCDEFG") (nines 4096) ≡ nines 4096
unfolding joined join_answer list_answer parse parse_from has_form trip_of is_numeral is_driver is_driver_byte spell_trip decimal same_rest agreeing agree
limit-kept = refl

-- a conflict in two lists of 80 such lines is refused as a conflict
pub conflict-before-length : join_answer (list_of 80 1000000000 1000000200 "A") (list_of 80 1000000001 1000000200 "B") (nines 4096) ≡ TRIP_CONFLICT
unfolding join_answer list_answer parse parse_from has_form trip_of is_numeral is_driver is_driver_byte spell_trip decimal same_rest agreeing agree
conflict-before-length = refl
