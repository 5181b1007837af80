-- The replies of the calls: an answer in a word, the down state, and the sizes of one file.
use mathlib.Core.Path.{◌≡◌, refl, ap}
use mathlib.Core.Logic.{◌≢◌}
use mathlib.Core.List.{List, [], ◌∷◌}
use Prim.Native.Nat.{ℕ}
use native.Mathlib.Omega.{arith}
use lib.ListN.{length, set}
use borrow.Author.Tests.{eq-eqb, ne_eqb}
use Rattle.answer.specs.Coded.{Coded}
use Rattle.device.specs.declared.FileSizes.{FileSizes}
use Rattle.device.specs.Device.{down_state}
use Rattle.device.specs.Sizes.{sizes_answer, sizes_after}
use Rattle.device.specs.Admission.{Result, give}
use Rattle.state_bytes.specs.Encoding.{state_bytes, encoded}
use Rattle.state_bytes.specs.InPlace.{state_shape}
use Rattle.boxstore.specs.Interface.{word_of, reply, in_word, down_bytes, sizes_record, truncate_sizes}

-- a result in a word
pub in_word_lem : {A : Type 0} (w : ℕ) (a : Coded) (x : A) (r : Result A) → give a x ≡ r → w ≡ word_of a → reply w x ≡ in_word r
in_word_lem w a x r e v = rw v (ap (λ (q : Result _). in_word q) e)

-- the down state
module _ (state : List ℕ) where
  pub down-shape : length state ≢ state_bytes → reply 131072 state ≡ in_word (down_bytes state)
  unfolding down_bytes state_shape
  down-shape h = rw (ne_eqb (length state) state_bytes h)

  pub down-call : (after : List ℕ) → length state ≡ state_bytes → after ≡ encoded down_state state → reply 0 after ≡ in_word (down_bytes state)
  unfolding down_bytes state_shape encoded
  down-call after h e = rw (e, eq-eqb (length state) state_bytes h)

-- the sizes of one file
three : (xs : List ℕ) → length xs ≡ 3 → (a b c : ℕ) → set (set (set xs 0 a) 1 b) 2 c ≡ a ∷ b ∷ c ∷ []
three (x ∷ y ∷ z ∷ []) h a b c = refl
three (x ∷ y ∷ z ∷ u ∷ xs) h a b c = absurd (omega arith)
three (x ∷ y ∷ []) h a b c = absurd (omega arith)
three (x ∷ []) h a b c = absurd (omega arith)
three [] h a b c = absurd (omega arith)

module _ (sizes : List ℕ) where
  pub sizes-shape : length sizes ≢ 3 → (greatest n : ℕ) → reply 131072 sizes ≡ in_word (truncate_sizes greatest n sizes)
  unfolding truncate_sizes
  sizes-shape h greatest n = rw (ne_eqb (length sizes) 3 h)

  pub sizes-call : length sizes ≡ 3 → (greatest n : ℕ) (z : FileSizes) (a : Coded) (w : ℕ) → z ≡ sizes_after greatest n (sizes_record sizes) → a ≡ sizes_answer greatest n (sizes_record sizes)
      → w ≡ word_of a → reply w (set (set (set sizes 0 z.logical) 1 z.floor) 2 z.stored) ≡ in_word (truncate_sizes greatest n sizes)
  unfolding truncate_sizes
  sizes-call h greatest n z a w e v u = rw (eq-eqb (length sizes) 3 h, three sizes h z.logical z.floor z.stored, e, u, v)
