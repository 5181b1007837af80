-- The cursor, step after step: each from the index that the step before gave, with a minute above that of its trip.
use Rattle.std.specs.Prelude.{ℕ, zero, suc, ◌+◌, List, [], ◌∷◌, length}
use Rattle.answer.specs.Coded.{Coded, done}
use Rattle.answer.specs.Admission.{if_done}
use Rattle.trip_list.specs.Trip.{Trip}
use Rattle.trip_list.specs.List.{Parsed, trips, refusal}
use Rattle.trip_list.specs.Lookup.{Located, next_trip}

-- the trips that the steps gave, and the answer of the step that gave none
pub record Walk : Type 0 where
  pub passed : List Trip
  pub last : Coded

abbrev pub walk_of : List Trip → Coded → Walk
walk_of ts a = record { passed = ts; last = a }

-- a trip in front of a walk
abbrev pub onward : Trip → Walk → Walk
onward t w = walk_of (t ∷ w.passed) w.last

-- stop where a step gives no trip
abbrev pub on_trip : List Located → Walk → (Trip → Walk) → Walk
on_trip [] none some = none
on_trip (l ∷ ls) none some = some l.trip

-- the first number is at least how many steps there are
abbrev pub walk : ℕ → List ℕ → ℕ → ℕ → Walk
walk zero list at least = walk_of [] (done 0)
walk (suc steps) list at least =
    let g = next_trip list at least in
    on_trip g.trip (walk_of [] g.answer) (λ (t : Trip). onward t (walk steps list g.answer.count (t.minute + 1)))

-- over a whole list
unfoldable pub whole_walk : List ℕ → Walk
whole_walk list = walk (length list + 1) list 0 0

-- what such a walk says of the list
abbrev pub walk_parsed : Walk → Parsed
walk_parsed w = if_done w.last (trips w.passed) (refusal w.last)
