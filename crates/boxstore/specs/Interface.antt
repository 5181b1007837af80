-- The calls as a caller makes them that links the library: on numbers and slices, with the cache state as bytes, answered by a word.
use Rattle.std.specs.Prelude.{ℕ, ◌+◌, ◌*◌, cond, List, [], ◌∷◌, eqb, length, get_or}
use Rattle.answer.specs.Coded.{Coded, done, SHAPE}
use Rattle.answer.specs.Admission.{test}
use Rattle.device.specs.declared.FileSizes.{FileSizes}
use Rattle.device.specs.declared.Span.{Span}
use Rattle.device.specs.Device.{down_state}
use Rattle.device.specs.Admission.{Result, give, admit}
use Rattle.device.specs.Sizes.{sizes_answer, sizes_after}
use Rattle.state_bytes.specs.Encoding.{encode}
use Rattle.state_bytes.specs.InPlace.{state_shape}
use Rattle.trip_list.specs.List.{write_answer, written}
use Rattle.trip_list.specs.Lookup.{Located, Given}
use Rattle.trip_join.specs.Join.{join_answer, joined}

-- ---- answers

-- an answer in one word: below 65,536 it is done, and the word is its count
abbrev pub word_of : Coded → ℕ
word_of a = 65536 * a.number + a.count

-- what a call gives: its word, and what it leaves in all that it borrowed
pub record Reply (A : Type 0) : Type 0 where
  pub word : ℕ
  pub left : A

abbrev pub reply : {A : Type 0} → ℕ → A → Reply A
reply w x = record { word = w; left = x }

abbrev pub in_word : {A : Type 0} → Result A → Reply A
in_word r = reply (word_of r.answer) r.left

-- where a look's part lies, in one word: offset, source (1 for the page frames, 0 for the media) and count; 0 on a refusal
abbrev pub span_word : Span → ℕ
span_word s = 4294967296 * s.from + 65536 * cond s.cached 1 0 + s.count

-- ---- the down state

unfoldable pub down_bytes : List ℕ → Result (List ℕ)
down_bytes state = admit (state_shape state) state (give (done 0) (encode down_state))

-- ---- the sizes of one file, as three numbers

abbrev pub sizes_record : List ℕ → FileSizes
sizes_record sizes = record { logical = get_or sizes 0 0; floor = get_or sizes 1 0; stored = get_or sizes 2 0 }

abbrev pub sizes_list : FileSizes → List ℕ
sizes_list s = s.logical ∷ s.floor ∷ s.stored ∷ []

unfoldable pub truncate_sizes : ℕ → ℕ → List ℕ → Result (List ℕ)
truncate_sizes greatest n sizes =
    admit (test (eqb (length sizes) 3) SHAPE ∷ []) sizes
    (give (sizes_answer greatest n (sizes_record sizes)) (sizes_list (sizes_after greatest n (sizes_record sizes))))

-- ---- trip lists

-- a trip as four numbers: minute, metres, where its driver begins in the list, and how long that is
abbrev pub trip_numbers : Located → List ℕ
trip_numbers p = p.trip.minute ∷ p.trip.metres ∷ p.driver ∷ p.letters ∷ []

-- four numbers become those of the trip that is given; where there is none they stay
abbrev pub over_numbers : List Located → List ℕ → List ℕ
over_numbers [] numbers = numbers
over_numbers (p ∷ ps) numbers = trip_numbers p

unfoldable pub in_numbers : Given → List ℕ → Result (List ℕ)
in_numbers g numbers = admit (test (eqb (length numbers) 4) SHAPE ∷ []) numbers (give g.answer (over_numbers g.trip numbers))

-- the writer
abbrev pub write_trips : List ℕ → List ℕ → Result (List ℕ)
write_trips list buffer = give (write_answer list buffer) (written list buffer)

-- the join
abbrev pub join_trips : List ℕ → List ℕ → List ℕ → Result (List ℕ)
join_trips first second buffer = give (join_answer first second buffer) (joined first second buffer)
