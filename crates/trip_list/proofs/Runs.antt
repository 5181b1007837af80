-- Laws of the runs of bytes in front of a text: a number with its comma, its leading zeros, a driver with its LF.
use Rattle.std.proofs.Common.{◌≡◌, ℕ, suc, ◌+◌, ◌-◌, ◌*◌, ◌^◌, ◌<◌, ◌≤◌, min, Bool, true, false, ◌&&◌, eqb, ltb, leb, not, cond, List, Option, Some, None, position, length, get_or, take, drop, sym, refl, ap, ◌∙◌, lt_of_lt_of_le, add-one, arith, length-drop, take-suc, take-take, ltb-false, ltb-true, le-leb}
use native.Mathlib.Nat.{pow-succ', pow-le-pow_right}
use lib.ListN.{get_or-eq_default}
use borrow.Author.Tests.{lt-leb}
use borrow.Table.Steps.{cases}
use Rattle.memory.proofs.Bytes.{length_front}
use Rattle.std.specs.Bool.{then_some}
use Rattle.std.specs.List.{position_or_len}
use Rattle.std.proofs.lemmas.List.Recursion.{is_position_or_len}
use Rattle.scan.specs.Scan.{first_index, every}
use Rattle.scan.proofs.Scan.{every_take}
use Rattle.text.specs.Ascii.{is_capital_or_digit}
use Rattle.text.specs.Decimal.{is_digit, is_zero, value, is_numeral}
use Rattle.text.specs.Marks.{LF, comma}
use Rattle.text.proofs.Decimal.{digit_bounds, value-join, value-small, ZerosTo, zeros-before}
use Rattle.words.specs.Words.{eight_or_none, first_eight}
use Rattle.trip_list.specs.Trip.{greatest_number, is_driver_byte, is_number, is_driver}
use Rattle.text.specs.Runs.{run, front}
use Rattle.text.proofs.Runs.{length_run, front-every, first-few, first-within, first-every, Passed, passed_first, passed-next, passed_here, passed_end, passed-few, passed-front}
use Rattle.trip_list.specs.Scanner.{number_field, driver_field, Reading, NumberRead, DriverRead}

-- no such field
pub nothing_read : {A : Type 0} {is_there : Bool} {Facts : A → Type 0} → false ≡ is_there → Reading None is_there Facts
nothing_read e = record { told = e; read = tt }

-- ---- a number and the comma after it

regroup : (a b c : Bool) → (a && (true && (true && (b && true)))) && c ≡ a && (b && c)
regroup true true c = refl
regroup true false c = refl
regroup false b c = refl

-- i digits, of value n
pub record Digits (s : List ℕ) (i n : ℕ) : Type 0 where
  pub passed : Passed is_digit s i
  pub valued : n ≡ value (take i s)
  pub bound : n < 10 ^ i
  pub few : i ≤ 10

-- those among the first eight bytes
pub digits-first : (s : List ℕ) (i n : ℕ) → i ≡ run is_digit (first_eight s) → n ≡ value (take i s) → Digits s i n
unfolding first_eight
digits-first s i n e v =
    let w = eight_or_none s in
    let m : w ≤ 8 = cases (leb 8 (length s)) (λ q. rw q (omega arith)) (λ q. rw q (omega arith)) in
    let d : every is_digit (take i s) ≡ true = ap (λ (k : ℕ). every is_digit (take k s)) e ∙ first-every is_digit w s in
    let l : length (take i s) ≡ i = length_front i s (omega (arith, first-within is_digit w s)) in
    record { passed = rw e (passed_first is_digit w s); valued = v; bound = rw v (rw l at (value-small (take i s) d)); few = omega (arith, first-few is_digit w s) }

and_none : (a b : Bool) → b ≡ false → false ≡ a && b
and_none true b e = sym e
and_none false b e = refl

module _ (s : List ℕ) (i n : ℕ) (d : Digits s i n) where
  -- at most nine digits before
  pub digits-small : i < 10 → n < 1000000000
  digits-small h = lt_of_lt_of_le d.bound (pow-le-pow_right {n = 10} (omega arith) {i = i} {j = 9} (omega arith))

  pub digits-next : i < length s → is_digit (get_or s i 0) ≡ true → i < 10 → Digits s (i + 1) (10 * n + (get_or s i 0 - 48))
  digits-next h e l =
      let b = digit_bounds (get_or s i 0) e in
      let q : 10 * n + (get_or s i 0 - 48) < 10 * 10 ^ i = omega (arith, d.bound, b) in
      record {
        passed = passed-next is_digit s i d.passed h e;
        valued = rw (add-one i, take-suc s i 0 h, value-join 0 (take i s) (get_or s i 0)) (ap (λ (m : ℕ). 10 * m + (get_or s i 0 - 48)) d.valued);
        bound = rw (add-one i, pow-succ') q;
        few = omega arith;
      }

  pub digits_end : length s ≤ i → false ≡ number_field s
  unfolding number_field
  digits_end h =
      let r = passed_end is_digit s i d.passed h in
      and_none (is_number (front is_digit s)) (eqb (get_or s (run is_digit s) 0) comma) (rw (r, get_or-eq_default s 0 {n = i} h))

  module _ (h : i < length s) where
    pub digits_many : is_digit (get_or s i 0) ≡ true → i ≡ 10 → false ≡ number_field s
    unfolding number_field is_numeral
    digits_many e k =
        let p = passed-next is_digit s i d.passed h e in
        let l : 10 < length (front is_digit s) = omega (arith, passed-few is_digit s (i + 1) p, length_run is_digit s) in
        let f : 1 ≤ length (front is_digit s) = omega arith in
        rw (le-leb _ _ f, lt-leb _ _ l)

    module _ (e : is_digit (get_or s i 0) ≡ false) where
      digits-run : i ≡ run is_digit s
      digits-run = sym (passed_here is_digit s i d.passed h e)

      digits-front : take i s ≡ front is_digit s
      digits-front = sym (passed-front is_digit s i d.passed (sym digits-run))

      digits_value : n ≡ value (front is_digit s)
      digits_value = d.valued ∙ ap value digits-front

      digits_ended : leb 1 i && (leb n greatest_number && eqb (get_or s i 0) comma) ≡ number_field s
      unfolding number_field is_numeral
      digits_ended =
          let l : length (front is_digit s) ≡ i = length_run is_digit s ∙ sym digits-run in
          rw (l, front-every is_digit s, le-leb _ _ d.few, ← digits_value, ← digits-run)
          (sym (regroup (leb 1 i) (leb n greatest_number) (eqb (get_or s i 0) comma)))

      pub digits-read : (told : Bool) → told ≡ leb 1 i && (leb n greatest_number && eqb (get_or s i 0) comma)
          → NumberRead s (then_some told (record { value = n; digits = i }))
      digits-read true a = record { told = a ∙ digits_ended; read = (digits_value, digits-run) }
      digits-read false a = nothing_read (a ∙ digits_ended)

-- ---- zeros before the last digit, among the first eight bytes

pub zeros-first : (s : List ℕ) (digits z i : ℕ) → z ≡ run is_zero (first_eight s) → i ≡ min z (digits - 1) → 2 ≤ digits → digits ≤ length s → ZerosTo (take digits s) i
unfolding first_eight
zeros-first s digits z i e f h l =
    let a : every is_zero (take z s) ≡ true = ap (λ (k : ℕ). every is_zero (take k s)) e ∙ first-every is_zero (eight_or_none s) s in
    let b : every is_zero (take i s) ≡ true = ap (every is_zero) (sym (take-take i z s (omega arith))) ∙ every_take is_zero i (take z s) a in
    zeros-before i (take digits s) (ap (every is_zero) (take-take i digits s (omega arith)) ∙ b) (omega (arith, length_front digits s l))

-- ---- a driver and the LF after it

-- the first byte that fails a test, after i bytes that pass
run_after : (t : ℕ → Bool) (s : List ℕ) (i : ℕ) → Passed t s i → run t s ≡ i + position_or_len (λ c. not (t c)) (drop i s)
unfolding run
run_after t s i p =
    let fails : ℕ → Bool = λ c. not (t c) in
    p.so_far ∙ ap (λ (k : ℕ). i + k) (is_position_or_len (first_index fails) fails refl (λ x xs. same (fails x) (first_index fails xs)) (drop i s))
  where
    same : (b : Bool) (n : ℕ) → cond b 0 (suc n) ≡ cond b 0 (1 + n)
    same true n = refl
    same false n = omega arith

regroup_driver : (a b c : Bool) → (a && (b && (true && true))) && c ≡ a && (b && c)
regroup_driver true true c = refl
regroup_driver true false c = refl
regroup_driver false b c = refl

-- an index below a limit, or none
index_some : (n m k : ℕ) → cond (ltb n m) (Some n) None ≡ Some k → (n ≡ k) × (n < m)
index_some n m k e = cases (ltb n m) (λ b. let f : Some n ≡ Some k = rw b at e in (cc, ltb-true n m b)) (λ b. let f : None ≡ Some k = rw b at e in cc)

index_none : (n m : ℕ) → ◌≡◌ {A = Option ℕ} (cond (ltb n m) (Some n) None) None → m ≤ n
index_none n m e = cases (ltb n m) (λ b. let f : Some n ≡ None = rw b at e in cc) (λ b. ltb-false n m b)

module _ (s : List ℕ) (i : ℕ) (e : i ≡ run is_capital_or_digit (first_eight s)) where
  pub letters-within : i ≤ length s
  unfolding first_eight
  letters-within = omega (arith, e, first-within is_capital_or_digit (eight_or_none s) s)

  passed : Passed is_driver_byte s i
  unfolding is_driver_byte first_eight
  passed = rw e (passed_first is_capital_or_digit (eight_or_none s) s)

  -- those from the next byte on
  module _ (rest : List ℕ) (w : rest ≡ drop i s) where
    abbrev others : ℕ
    others = position_or_len (λ c. not (is_driver_byte c)) rest

    letters_run : run is_driver_byte s ≡ i + others
    letters_run = run_after is_driver_byte s i passed ∙ ap (λ (xs : List ℕ). i + position_or_len (λ c. not (is_driver_byte c)) xs) (sym w)

    pub no_driver-end : position (λ c. not (is_driver_byte c)) rest ≡ None → DriverRead s None
    unfolding driver_field
    no_driver-end h =
        let r : length s ≤ run is_driver_byte s = omega (arith, index_none others (length rest) h, letters_run, ap length w ∙ length-drop i s) in
        nothing_read (and_none (is_driver (front is_driver_byte s)) (eqb (get_or s (run is_driver_byte s) 0) LF) (rw (get_or-eq_default s 0 {n = run is_driver_byte s} r)))

    module _ (k : ℕ) (h : position (λ c. not (is_driver_byte c)) rest ≡ Some k) where
      driver-run : run is_driver_byte s ≡ i + k
      driver-run = omega (arith, letters_run, (index_some others (length rest) k h).0)

      driver_ended : leb 1 (i + k) && (leb (i + k) 16 && eqb (get_or s (i + k) 0) LF) ≡ driver_field s
      unfolding driver_field is_driver
      driver_ended =
          let l : length (front is_driver_byte s) ≡ i + k = length_run is_driver_byte s ∙ driver-run in
          rw (l, front-every is_driver_byte s, driver-run) (sym (regroup_driver (leb 1 (i + k)) (leb (i + k) 16) (eqb (get_or s (i + k) 0) LF)))

      pub driver-read : (told : Bool) → told ≡ leb 1 (i + k) && (leb (i + k) 16 && eqb (get_or s (i + k) 0) LF) → DriverRead s (then_some told (i + k))
      driver-read true a = record { told = a ∙ driver_ended; read = sym driver-run }
      driver-read false a = nothing_read (a ∙ driver_ended)
