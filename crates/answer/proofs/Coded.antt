-- Laws of answers in numbers.
use mathlib.Core.Path.{◌≡◌, refl, sym, ap, ◌∙◌}
use mathlib.Core.Bool.{false, cond}
use mathlib.Core.Logic.{◌⊎◌, inl, inr}
use Prim.Native.Nat.{ℕ, ◌<◌}
use native.Mathlib.Omega.{arith}
use lib.Dec.{eqb}
use Rattle.answer.specs.declared.Refusal.{Refusal}
use Rattle.answer.specs.declared.Refusal.TheVariants.{Line, Shape, Media, Books, Down, NoFile, Range, NoRoom, Cut, TripForm, TripOrder, TripConflict, TripsTooLong}
use Rattle.std.specs.Prelude.{Result}
use Rattle.std.specs.Prelude.{Ok, Err}
use Rattle.answer.specs.Coded.{Coded, coded, done, coded_refusal}

-- no refusal has number 0
pub refusal-number : (r : Refusal) → eqb (coded_refusal r).number 0 ≡ false
refusal-number Line = refl
refusal-number Shape = refl
refusal-number Media = refl
refusal-number Books = refl
refusal-number Down = refl
refusal-number NoFile = refl
refusal-number Range = refl
refusal-number NoRoom = refl
refusal-number (Cut n) = refl
refusal-number TripForm = refl
refusal-number TripOrder = refl
refusal-number TripConflict = refl
refusal-number TripsTooLong = refl

-- number 0 is done
pub number-done : (a : Coded) → a.number ≡ 0 → a ≡ done a.count
number-done a e = ap (λ (k : ℕ). record { number = k; count = a.count }) e

-- an answer's number has one digit, or it has two and the count is 0
pub number_small : (a : Result ℕ Refusal) → ((coded a).number < 10) ⊎ (((coded a).number < 100) × ((coded a).count ≡ 0))
number_small (Ok n) = inl (omega arith)
number_small (Err r) = go r
  where
    go : (r : Refusal) → ((coded_refusal r).number < 10) ⊎ (((coded_refusal r).number < 100) × ((coded_refusal r).count ≡ 0))
    go Line = inl (omega arith)
    go Shape = inl (omega arith)
    go Media = inl (omega arith)
    go Books = inl (omega arith)
    go Down = inl (omega arith)
    go NoFile = inl (omega arith)
    go Range = inl (omega arith)
    go NoRoom = inl (omega arith)
    go (Cut n) = inl (omega arith)
    go TripForm = inr (omega arith, refl)
    go TripOrder = inr (omega arith, refl)
    go TripConflict = inr (omega arith, refl)
    go TripsTooLong = inr (omega arith, refl)

-- the answer with a number and a count
decoded : Coded → Result ℕ Refusal
decoded c =
    cond (eqb c.number 0) (Ok c.count)
    (cond (eqb c.number 1) (Err Line)
    (cond (eqb c.number 2) (Err Shape)
    (cond (eqb c.number 3) (Err Media)
    (cond (eqb c.number 4) (Err Books)
    (cond (eqb c.number 5) (Err Down)
    (cond (eqb c.number 6) (Err NoFile)
    (cond (eqb c.number 7) (Err Range)
    (cond (eqb c.number 8) (Err NoRoom)
    (cond (eqb c.number 9) (Err (Cut c.count))
    (cond (eqb c.number 10) (Err TripForm)
    (cond (eqb c.number 11) (Err TripOrder)
    (cond (eqb c.number 17) (Err TripConflict) (Err TripsTooLong)))))))))))))

decoded_refusal : (r : Refusal) → decoded (coded_refusal r) ≡ Err r
unfolding decoded
decoded_refusal Line = refl
decoded_refusal Shape = refl
decoded_refusal Media = refl
decoded_refusal Books = refl
decoded_refusal Down = refl
decoded_refusal NoFile = refl
decoded_refusal Range = refl
decoded_refusal NoRoom = refl
decoded_refusal (Cut n) = refl
decoded_refusal TripForm = refl
decoded_refusal TripOrder = refl
decoded_refusal TripConflict = refl
decoded_refusal TripsTooLong = refl

decoded_coded : (a : Result ℕ Refusal) → decoded (coded a) ≡ a
unfolding decoded
decoded_coded (Ok n) = refl
decoded_coded (Err r) = decoded_refusal r

-- two answers with one number and count are one answer: a contract that gives `coded r` gives r
pub coded_injective : (a b : Result ℕ Refusal) → coded a ≡ coded b → a ≡ b
coded_injective a b e = sym (decoded_coded a) ∙ ap decoded e ∙ decoded_coded b

-- what a contract says of an answer, said of the case that it is
pub coded_of : (r s : Result ℕ Refusal) (a : Coded) → r ≡ s → coded r ≡ a → coded s ≡ a
coded_of r s a q e = sym (ap coded q) ∙ e
