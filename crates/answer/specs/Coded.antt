-- Answers in the numbers of document 01, "When a call is turned down"; 10, 11, 17 and 18 are of document 02, §1 and §12.
use Rattle.std.specs.Prelude.{ℕ, Result, Ok, Err}
use Rattle.answer.specs.declared.Refusal.{Refusal}
use Rattle.answer.specs.declared.Refusal.TheVariants.{Line, Shape, Media, Books, Down, NoFile, Range, NoRoom, Cut, TripForm, TripOrder, TripConflict, TripsTooLong}

-- what is printed of an answer
pub record Coded : Type 0 where
  pub number : ℕ
  pub count : ℕ

-- done with a count
abbrev pub done : ℕ → Coded
done n = record { number = 0; count = n }

-- the refusals, each with its number; all but CUT have count 0
abbrev pub refused : ℕ → Coded
refused k = record { number = k; count = 0 }

abbrev pub LINE : Coded
LINE = refused 1

abbrev pub SHAPE : Coded
SHAPE = refused 2

abbrev pub MEDIA : Coded
MEDIA = refused 3

abbrev pub BOOKS : Coded
BOOKS = refused 4

abbrev pub DOWN : Coded
DOWN = refused 5

abbrev pub NO_FILE : Coded
NO_FILE = refused 6

abbrev pub RANGE : Coded
RANGE = refused 7

abbrev pub NO_ROOM : Coded
NO_ROOM = refused 8

abbrev pub CUT : ℕ → Coded
CUT n = record { number = 9; count = n }

abbrev pub TRIP_FORM : Coded
TRIP_FORM = refused 10

abbrev pub TRIP_ORDER : Coded
TRIP_ORDER = refused 11

abbrev pub TRIP_CONFLICT : Coded
TRIP_CONFLICT = refused 17

abbrev pub TRIPS_TOO_LONG : Coded
TRIPS_TOO_LONG = refused 18

-- the number and the count of each refusal
abbrev pub coded_refusal : Refusal → Coded
coded_refusal Line = LINE
coded_refusal Shape = SHAPE
coded_refusal Media = MEDIA
coded_refusal Books = BOOKS
coded_refusal Down = DOWN
coded_refusal NoFile = NO_FILE
coded_refusal Range = RANGE
coded_refusal NoRoom = NO_ROOM
coded_refusal (Cut n) = CUT n
coded_refusal TripForm = TRIP_FORM
coded_refusal TripOrder = TRIP_ORDER
coded_refusal TripConflict = TRIP_CONFLICT
coded_refusal TripsTooLong = TRIPS_TOO_LONG

abbrev pub coded : Result ℕ Refusal → Coded
coded (Ok n) = done n
coded (Err r) = coded_refusal r

-- of a test that gives no count: where it passes, done with 0
abbrev pub coded_test : {A : Type 0} → Result A Refusal → Coded
coded_test (Ok x) = done 0
coded_test (Err r) = coded_refusal r
