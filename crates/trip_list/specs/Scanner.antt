-- What the parts of the code find in front of some bytes.
use Rattle.std.specs.Prelude.{◌≡◌, ℕ, ◌+◌, Bool, true, ◌&&◌, List, Option, is_some, IfSome, length, drop, ◌==◌, slice_index}
use Rattle.answer.specs.Coded.{Coded}
use Rattle.answer.specs.Admission.{first_refusal}
use Rattle.text.specs.Decimal.{is_digit, value}
use Rattle.text.specs.Marks.{LF, comma}
use Rattle.text.specs.Runs.{run, front}
use Rattle.trip_list.specs.declared.Trip as code
use Rattle.trip_list.specs.declared.Line as line
use Rattle.trip_list.specs.declared.Number as number
use Rattle.trip_list.specs.Trip.{is_driver_byte, is_number, is_driver, field}
use Rattle.trip_list.specs.List.{refusal, parse_from}
use Rattle.trip_list.specs.Lines.{first_line, has_line, first_trip, line_length, driver_start}
use Rattle.trip_list.specs.Lookup.{line_tests}

-- bytes in front that pass a test and are a field, with the mark after them
abbrev pub field_before : ℕ → (ℕ → Bool) → (List ℕ → Bool) → List ℕ → Bool
field_before mark t is_field s = is_field (front t s) && slice_index s (run t s) == mark

unfoldable pub number_field : List ℕ → Bool
number_field = field_before comma is_digit is_number

unfoldable pub driver_field : List ℕ → Bool
driver_field = field_before LF is_driver_byte is_driver

-- found exactly where it is there, and with these facts
pub record Reading {A : Type 0} (found : Option A) (is_there : Bool) (Facts : A → Type 0) : Type 0 where
  pub told : is_some found ≡ is_there
  pub read : IfSome found Facts

-- a number in front: its value and its digits
abbrev pub NumberRead : List ℕ → Option number.Number → Type 0
NumberRead s found = Reading found (number_field s) (λ n. (n.value ≡ value (front is_digit s)) × (n.digits ≡ run is_digit s))

-- a driver in front: its letters
abbrev pub DriverRead : List ℕ → Option ℕ → Type 0
DriverRead s found = Reading found (driver_field s) (λ letters. letters ≡ run is_driver_byte s)

-- the numbers of the line in front, where its metres and its driver begin, and its length
pub record LineFields (s : List ℕ) (l : line.Line) : Type 0 where
  pub minute : l.minute ≡ (first_trip s).minute
  pub metres : l.metres ≡ (first_trip s).metres
  pub second : l.second ≡ length (field 0 (first_line s)) + 1
  pub driver : l.driver ≡ driver_start s
  pub letters : l.letters ≡ length (first_trip s).driver
  pub size : l.length ≡ line_length s

abbrev pub LineRead : List ℕ → Option line.Line → Type 0
LineRead s found = Reading found (has_line s) (LineFields s)

-- the longest line of the form: two numbers of ten digits, a driver of sixteen letters, and a mark after each
abbrev pub greatest_line : ℕ
greatest_line = 39

-- a line of the form starts at the index
pub record LineAt (list : List ℕ) (at : ℕ) (l : line.Line) : Type 0 where
  pub form : has_line (drop at list) ≡ true
  pub read : LineFields (drop at list) l

-- the bytes do not begin with a line of a minute of at least `least`
pub record Stopped (least : ℕ) (s : List ℕ) (a : Coded) : Type 0 where
  pub told : (other : Coded) → first_refusal (line_tests least s) other ≡ a
  pub parsed : parse_from least s ≡ refusal a

unfoldable pub trip_at : List ℕ → ℕ → code.Trip
trip_at list at = record {
  minute = (first_trip (drop at list)).minute;
  metres = (first_trip (drop at list)).metres;
  driver = at + driver_start (drop at list);
  letters = length (first_trip (drop at list)).driver;
}
