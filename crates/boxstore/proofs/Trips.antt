-- The replies of the calls on trip lists: counts that fit a word, and four numbers of a trip.
use mathlib.Core.Path.{◌≡◌, refl, ap}
use mathlib.Core.Logic.{◌≢◌}
use mathlib.Core.List.{List, [], ◌∷◌}
use Prim.Native.Nat.{ℕ, ◌<◌}
use native.Mathlib.Omega.{arith}
use lib.ListN.{length, set}
use borrow.Author.Tests.{eq-eqb, ne_eqb}
use Rattle.std.specs.Prelude.{Result}
use Rattle.answer.specs.declared.Refusal.{Refusal}
use Rattle.trip_list.specs.declared.Lookup.{Lookup}
use Rattle.trip_list.specs.Lookup.{Given, looked, read_trip, next_trip}
use Rattle.trip_list.proofs.Parsing.{list_count}
use Rattle.trip_list.proofs.Walking.{next-count}
use Rattle.boxstore.specs.Interface.{word_of, reply, in_word, over_numbers, in_numbers}

-- ---- the whole call

module _ (numbers : List ℕ) (g : Given) where
  pub numbers-shape : length numbers ≢ 4 → reply 131072 numbers ≡ in_word (in_numbers g numbers)
  unfolding in_numbers
  numbers-shape h = rw (ne_eqb (length numbers) 4 h)

  pub numbers-call : length numbers ≡ 4 → (list : List ℕ) (r : Result Lookup Refusal) → looked list r ≡ g → (w : ℕ) (after : List ℕ)
      → w ≡ word_of (looked list r).answer → after ≡ over_numbers (looked list r).trip numbers → reply w after ≡ in_word (in_numbers g numbers)
  unfolding in_numbers
  numbers-call h list r e w after ew ea = rw (eq-eqb (length numbers) 4 h, ew, ea, e)

module _ (list : List ℕ) (r : Result Lookup Refusal) where
  pub read_trip-fits : (place : ℕ) → looked list r ≡ read_trip list place → (looked list r).answer.count < 65536
  unfolding read_trip
  read_trip-fits place e = omega (arith, ap (λ (g : Given). g.answer.count) e, list_count list)

  pub next_trip-fits : (at least : ℕ) → looked list r ≡ next_trip list at least → (looked list r).answer.count < 65536
  unfolding next_trip
  next_trip-fits at least e = omega (arith, ap (λ (g : Given). g.answer.count) e, next-count list at least)
