-- Worked lists, computed.
use Rattle.std.proofs.Common.{◌≡◌, ℕ, ◌-◌, List, [], ◌∷◌, map, take, drop, refl}
use Prim.Native.String.{String}
use Rattle.answer.specs.Coded.{Coded, done, TRIP_FORM, TRIP_ORDER}
use Rattle.text.specs.Ascii.{ascii}
use Rattle.text.specs.Decimal.{is_numeral, decimal}
use Rattle.trip_list.specs.Trip.{trip, is_driver_byte, is_driver, has_form, trip_of, spell_trip, spell}
use Rattle.trip_list.specs.List.{Parsed, trips, refusal, parse_from, parse, trips_of, list_answer}
use Rattle.trip_list.specs.Lines.{first_line, first_trip, line_length, driver_start, line_start}
use Rattle.trip_list.specs.Lookup.{Located, located, read_trip}

-- a list, its number and count, its trips with where their drivers lie, and its spelling
pub record Row : Type 0 where
  pub list : List ℕ
  pub answer : Coded
  pub parsed : Parsed
  pub found : List Located
  pub written : List ℕ

-- a trip whose driver begins at an index
abbrev at : ℕ → ℕ → String → ℕ → Located
at minute metres driver index = located (trip minute metres (ascii driver)) index

-- an accepted list, and a refused one
abbrev good : String → ℕ → List Located → String → Row
good list count found written = record { list = ascii list; answer = done count; parsed = trips (map (λ (l : Located). l.trip) found); found = found; written = ascii written }

abbrev bad : String → Coded → Row
bad list a = record { list = ascii list; answer = a; parsed = refusal a; found = []; written = [] }

abbrev pub rows : List Row
rows =
    good "" 0 [] ""
    ∷ good "7,12,A\n" 1 (at 7 12 "A" 5 ∷ []) "7,12,A\n"
    ∷ good "7,1,AZ09\n" 1 (at 7 1 "AZ09" 4 ∷ []) "7,1,AZ09\n"
    ∷ good "7,12,A\n8,5,EVA\n9,0,B\n" 3 (at 7 12 "A" 5 ∷ at 8 5 "EVA" 11 ∷ at 9 0 "B" 19 ∷ []) "7,12,A\n8,5,EVA\n9,0,B\n"
    ∷ good "007,000,A\n0000000008,0,007\n" 2 (at 7 0 "A" 8 ∷ at 8 0 "007" 23 ∷ []) "7,0,A\n8,0,007\n"
    ∷ good "0,4294967295,A\n4294967295,0000000010,ABCDEFGHIJKLMNOP\n" 2
    (at 0 4294967295 "A" 13 ∷ at 4294967295 10 "ABCDEFGHIJKLMNOP" 37 ∷ [])
    "0,4294967295,A\n4294967295,10,ABCDEFGHIJKLMNOP\n"
    ∷ bad "4294967296,1,A\n" TRIP_FORM
    ∷ bad "1,4294967296,A\n" TRIP_FORM
    ∷ bad "00000000007,1,A\n" TRIP_FORM
    ∷ bad ",1,A\n" TRIP_FORM
    ∷ bad "7,,A\n" TRIP_FORM
    ∷ bad "/,1,A\n" TRIP_FORM
    ∷ bad ":,1,A\n" TRIP_FORM
    ∷ bad "7,/,A\n" TRIP_FORM
    ∷ bad "7,:,A\n" TRIP_FORM
    ∷ bad "7,1\n" TRIP_FORM
    ∷ bad "7,1,\n" TRIP_FORM
    ∷ bad "7,1,A,\n" TRIP_FORM
    ∷ bad "7,1,ABCDEFGHIJKLMNOPQ\n" TRIP_FORM
    ∷ bad "7,1,a\n" TRIP_FORM
    ∷ bad "7,1,/\n" TRIP_FORM
    ∷ bad "7,1,:\n" TRIP_FORM
    ∷ bad "7,1,@\n" TRIP_FORM
    ∷ bad "7,1,[\n" TRIP_FORM
    ∷ bad "7, 1,A\n" TRIP_FORM
    ∷ bad "7,1,A" TRIP_FORM
    ∷ bad "7,1,A\n\n" TRIP_FORM
    ∷ bad "\n" TRIP_FORM
    ∷ bad "7,1,A\r\n" TRIP_FORM
    ∷ bad "7,1,A\n7,1,A\n" TRIP_ORDER
    ∷ bad "7,1,A\n6,1,A\n8,1,A" TRIP_ORDER
    ∷ bad "7,1,A\n6,1,A" TRIP_FORM
    ∷ bad "7,1,A\n6,1,A\n8,1,b\n" TRIP_ORDER
    ∷ bad "7,1,A\n8,1,b\n6,1,A\n" TRIP_FORM
    ∷ bad "7,1,A\n6,1,b\n" TRIP_FORM
    ∷ []

pub rows-parsed : map (λ (r : Row). parse r.list) rows ≡ map (λ (r : Row). r.parsed) rows
unfolding parse parse_from has_form trip_of is_numeral is_driver is_driver_byte
rows-parsed = refl

pub rows_written : map (λ (r : Row). spell (trips_of (parse r.list))) rows ≡ map (λ (r : Row). r.written) rows
unfolding parse parse_from has_form trip_of is_numeral is_driver is_driver_byte spell_trip decimal
rows_written = refl

-- the reader's number and count
pub rows_answered : map (λ (r : Row). list_answer r.list) rows ≡ map (λ (r : Row). r.answer) rows
unfolding list_answer parse parse_from has_form trip_of is_numeral is_driver is_driver_byte
rows_answered = refl

-- the reader's trip at place 0, at the last place and past it
pub rows-first : map (λ (r : Row). (read_trip r.list 0).trip) rows ≡ map (λ (r : Row). take 1 r.found) rows
unfolding read_trip list_answer parse parse_from has_form trip_of is_numeral is_driver is_driver_byte driver_start first_trip first_line
rows-first = refl

pub rows_last : map (λ (r : Row). (read_trip r.list (r.answer.count - 1)).trip) rows ≡ map (λ (r : Row). drop (r.answer.count - 1) r.found) rows
unfolding read_trip list_answer parse parse_from has_form trip_of is_numeral is_driver is_driver_byte driver_start first_trip first_line line_length
rows_last = refl

pub rows_past : map (λ (r : Row). (read_trip r.list r.answer.count).trip) rows ≡ map (λ (r : Row). []) rows
unfolding read_trip list_answer parse parse_from has_form trip_of is_numeral is_driver is_driver_byte
rows_past = refl

-- where the second line of "7,12,A\n8,5,EVA\n" starts, and where its driver lies
pub second-line : line_start 1 (ascii "7,12,A\n8,5,EVA\n") ≡ 7
unfolding line_length first_line
second-line = refl

pub second-driver : driver_start (ascii "8,5,EVA\n") ≡ 4
unfolding driver_start first_trip first_line trip_of
second-driver = refl
