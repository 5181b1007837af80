-- Laws of decimal numbers: digits, numerals, and the digits of a number.
use mathlib.Core.Path.{◌≡◌, refl, sym, ap, ◌∙◌}
use mathlib.Core.Bool.{true, false}
use mathlib.Core.Logic.{◌≢◌}
use mathlib.Core.List.{List, [], ◌∷◌, ◌++◌, append_assoc, append-nil}
use Prim.Native.Nat.{ℕ, zero, suc, ◌+◌, ◌-◌, ◌*◌, ◌/◌, ◌%◌, ◌^◌, ◌≤◌, ◌<◌}
use native.Mathlib.Omega.{arith}
use native.Mathlib.Nat.{not-suc-le-zero, pow-succ', pow-suc, pow-le-pow_right, lt_of_lt_of_le, le_trans, le_of_eq, mul-le-mul_right, mul_assoc, suc-add}
use native.Mathlib.Numerals.{add-one}
use lib.Dec.{eqb, ltb, leb}
use lib.ListN.{length, get_or, take, drop, length-append, length-drop, drop_of_length-le}
use lib.Seq.{drop-cons}
use borrow.Author.Tests.{eqb-true, eqb-false, eq-eqb, ne_eqb, leb-true, le-leb, lt-leb, lt-ltb, le-ltb, ltb-true, ltb-false}
use borrow.Table.Steps.{cases}
use Rattle.scan.specs.Scan.{every}
use Rattle.scan.proofs.Scan.{and_left, and_right, and-true, all_of_at, every_at, every-join}
use Rattle.text.specs.Decimal.{is_digit, is_zero, value_from, value, is_numeral, digits_in, digits_bound, decimal, leading_zeros}

-- ---- digits

pub digit_bounds : (c : ℕ) → is_digit c ≡ true → (48 ≤ c) × (c ≤ 57)
digit_bounds c e = (leb-true 48 c (and_left (leb 48 c) (leb c 57) e), leb-true c 57 (and_right (leb 48 c) (leb c 57) e))

pub digit_at : (text : List ℕ) (i : ℕ) → every is_digit text ≡ true → i < length text → (48 ≤ get_or text i 0) × (get_or text i 0 ≤ 57)
digit_at text i e h = digit_bounds (get_or text i 0) (every_at is_digit text 0 e i h)

pub not_digit_below : (c : ℕ) → c < 48 → is_digit c ≡ false
not_digit_below c h = rw (lt-leb 48 c h)

pub not_digit_above : (c : ℕ) → 57 < c → is_digit c ≡ false
not_digit_above c h = let k : 48 ≤ c = omega arith in rw (le-leb 48 c k, lt-leb c 57 h)

pub is_digit_lem : (c : ℕ) → 48 ≤ c → c ≤ 57 → is_digit c ≡ true
is_digit_lem c h k = rw (le-leb 48 c h, le-leb c 57 k)

-- ---- the value of digits

-- one digit more
pub value-join : (m : ℕ) (xs : List ℕ) (c : ℕ) → value_from m (xs ++ (c ∷ [])) ≡ 10 * value_from m xs + (c - 48)
value-join m [] c = refl
value-join m (x ∷ xs) c = value-join (10 * m + (x - 48)) xs c

-- k digits more, after n
value-bound : (n : ℕ) (ds : List ℕ) → every is_digit ds ≡ true → value_from n ds < (n + 1) * 10 ^ length ds
value-bound n [] e = omega arith
value-bound n (c ∷ cs) e =
    let b = digit_bounds c (and_left (is_digit c) (every is_digit cs) e) in
    let q = value-bound (10 * n + (c - 48)) cs (and_right (is_digit c) (every is_digit cs) e) in
    let m : 10 * n + (c - 48) + 1 ≤ (n + 1) * 10 = omega (arith, b) in
    rw pow-succ' (lt_of_lt_of_le q (le_trans (mul-le-mul_right (10 ^ length cs) m) (le_of_eq (mul_assoc (n + 1) 10 (10 ^ length cs)))))

pub value-small : (ds : List ℕ) → every is_digit ds ≡ true → value ds < 10 ^ length ds
value-small ds e = omega (arith, value-bound 0 ds e)

-- the digits before i have value n: the rest gives the value of all
pub record Valued (text : List ℕ) (i n : ℕ) : Type 0 where
  pub so_far : value_from n (drop i text) ≡ value text
  pub bound : n < 10 ^ i

pub valued-none : (text : List ℕ) → Valued text 0 0
valued-none text = record { so_far = refl; bound = omega arith }

pub valued-next : (text : List ℕ) (i n : ℕ) → Valued text i n → i < length text → every is_digit text ≡ true → Valued text (i + 1) (10 * n + (get_or text i 0 - 48))
valued-next text i n v h e =
    let d : (48 ≤ get_or text i 0) × (get_or text i 0 ≤ 57) = digit_at text i e h in
    let b : 10 * n + (get_or text i 0 - 48) < 10 * 10 ^ i = omega (arith, v.bound, d) in
    rw add-one (record { so_far = rw (drop-cons text i 0 h) at v.so_far; bound = rw pow-succ' b })

pub valued_end : (text : List ℕ) (i n : ℕ) → Valued text i n → length text ≤ i → n ≡ value text
valued_end text i n v h = rw (drop_of_length-le text h) at v.so_far

-- at most k digits before
pub valued-small : (text : List ℕ) (i n k : ℕ) → Valued text i n → i ≤ k → n < 10 ^ k
valued-small text i n k v h = lt_of_lt_of_le v.bound (pow-le-pow_right {n = 10} (omega arith) {i = i} {j = k} h)

-- ---- numerals

module _ (most limit : ℕ) (text : List ℕ) where
  pub too_short : length text < 1 → is_numeral most limit text ≡ false
  unfolding is_numeral
  too_short h = rw (lt-leb 1 (length text) h)

  module _ (h : 1 ≤ length text) where
    pub too_long : most < length text → is_numeral most limit text ≡ false
    unfolding is_numeral
    too_long k = rw (le-leb 1 (length text) h, lt-leb (length text) most k)

    module _ (k : length text ≤ most) where
      pub no_digits : every is_digit text ≡ false → is_numeral most limit text ≡ false
      unfolding is_numeral
      no_digits e = rw (le-leb 1 (length text) h, le-leb (length text) most k, e)

      pub by_value : every is_digit text ≡ true → is_numeral most limit text ≡ leb (value text) limit
      unfolding is_numeral
      by_value e = rw (le-leb 1 (length text) h, le-leb (length text) most k, e) (and-true (leb (value text) limit))

pub record Numeral (most limit : ℕ) (text : List ℕ) : Type 0 where
  pub some : 1 ≤ length text
  pub few : length text ≤ most
  pub digits : every is_digit text ≡ true
  pub small : value text ≤ limit

pub numeral : (most limit : ℕ) (text : List ℕ) → is_numeral most limit text ≡ true → Numeral most limit text
unfolding is_numeral
numeral most limit text e =
    let at = all_of_at (leb 1 (length text) ∷ leb (length text) most ∷ every is_digit text ∷ leb (value text) limit ∷ []) e in
    record { some = leb-true _ _ (at 0); few = leb-true _ _ (at 1); digits = at 2; small = leb-true _ _ (at 3) }

-- ---- the digits of a number

-- any bound on their number serves
digits_same : (k j n : ℕ) → 1 ≤ k → n < 10 ^ k → 1 ≤ j → n < 10 ^ j → digits_in k n ≡ digits_in j n
digits_same zero j n a h b l = absurd (not-suc-le-zero a)
digits_same (suc k) zero n a h b l = absurd (not-suc-le-zero b)
digits_same (suc zero) (suc j) n a h b l = let t : n < 10 = h in rw (lt-ltb n 10 t)
digits_same (suc (suc k)) (suc zero) n a h b l = let t : n < 10 = l in rw (lt-ltb n 10 t)
digits_same (suc (suc k)) (suc (suc j)) n a h b l =
    let p = rw (pow-suc 10 (suc k)) at h in
    let q = rw (pow-suc 10 (suc j)) at l in
    rw (digits_same (suc k) (suc j) (n / 10) (omega arith) (omega arith) (omega arith) (omega arith))

below_own_power : (n : ℕ) → n < 10 ^ n
below_own_power zero = omega arith
below_own_power (suc n) = let h = below_own_power n in rw (pow-suc 10 n) (omega arith)

bounded : (n : ℕ) → (1 ≤ digits_bound n) × (n < 10 ^ digits_bound n)
bounded n =
    cases (ltb n (10 ^ 20))
    (λ e. rw e (omega arith, ltb-true n (10 ^ 20) e))
    (λ e. let h = below_own_power n in rw (e, pow-suc 10 n) (omega arith, omega arith))

pub decimal-small : (n : ℕ) → n < 10 → decimal n ≡ (48 + n) ∷ []
unfolding decimal
decimal-small n h = digits_same (digits_bound n) 1 n (bounded n).0 (bounded n).1 (omega arith) (omega arith) ∙ rw (lt-ltb n 10 h)

pub decimal_more : (n : ℕ) → 10 ≤ n → decimal n ≡ decimal (n / 10) ++ ((48 + n % 10) ∷ [])
unfolding decimal
decimal_more n h =
    let b = bounded (n / 10) in
    let l : n < 10 ^ suc (digits_bound (n / 10)) = rw (pow-suc 10 (digits_bound (n / 10))) (omega (arith, b.1)) in
    digits_same (digits_bound n) (suc (digits_bound (n / 10))) n (bounded n).0 (bounded n).1 (omega arith) l ∙ rw (le-ltb n 10 h)

pub length-small : (n : ℕ) → n < 10 → length (decimal n) ≡ 1
length-small n h = ap length (decimal-small n h)

pub length_more : (n : ℕ) → 10 ≤ n → length (decimal n) ≡ length (decimal (n / 10)) + 1
length_more n h = ap length (decimal_more n h) ∙ simp length-append

pub decimal-length : (n k : ℕ) → n < 10 ^ k → 1 ≤ k → length (decimal n) ≤ k
decimal-length n zero h l = absurd (not-suc-le-zero l)
decimal-length n (suc zero) h l = omega (arith, length-small n (omega arith))
decimal-length n (suc (suc k)) h l =
    cases (ltb n 10)
    (λ e. omega (arith, length-small n (ltb-true n 10 e)))
    (λ e.
    let t = ltb-false n 10 e in
    let q = rw (pow-suc 10 (suc k)) at h in
    omega (arith, length_more n t, decimal-length (n / 10) (suc k) (omega arith) (omega arith)))

-- a number that fits a usize has at most 20 digits
pub decimal-fits : (n : ℕ) → n < 2 ^ 64 → length (decimal n) ≤ 20
decimal-fits n h = decimal-length n 20 (omega arith) (omega arith)

pub decimal_some : (n : ℕ) → 1 ≤ length (decimal n)
decimal_some n =
    cases (ltb n 10)
    (λ e. omega (arith, length-small n (ltb-true n 10 e)))
    (λ e. omega (arith, length_more n (ltb-false n 10 e)))

digits-every : (k n : ℕ) → every is_digit (digits_in k n) ≡ true
digits-every zero n = refl
digits-every (suc k) n =
    cases (ltb n 10)
    (λ e. let h = ltb-true n 10 e in rw (e, is_digit_lem (48 + n) (omega arith) (omega arith)))
    (λ e. rw e (every-join is_digit (digits_in k (n / 10)) ((48 + n % 10) ∷ []) (digits-every k (n / 10)) (rw (is_digit_lem (48 + n % 10) (omega arith) (omega arith)))))

pub decimal-every : (n : ℕ) → every is_digit (decimal n) ≡ true
unfolding decimal
decimal-every n = digits-every (digits_bound n) n

-- reading a printed number gives it back
value-digits : (k n : ℕ) → 1 ≤ k → n < 10 ^ k → value (digits_in k n) ≡ n
value-digits zero n a h = absurd (not-suc-le-zero a)
value-digits (suc zero) n a h = let t : n < 10 = h in rw (lt-ltb n 10 t) (omega arith)
value-digits (suc (suc k)) n a h =
    cases (ltb n 10)
    (λ e. rw e (omega arith))
    (λ e.
    let p = rw (pow-suc 10 (suc k)) at h in
    let q : value (digits_in (suc k) (n / 10)) ≡ n / 10 = value-digits (suc k) (n / 10) (omega arith) (omega arith) in
    rw (e, value-join, q) (omega arith))

pub value-decimal : (n : ℕ) → value (decimal n) ≡ n
unfolding decimal
value-decimal n = value-digits (digits_bound n) n (bounded n).0 (bounded n).1

-- a number printed is a numeral
pub decimal_numeral : (most limit n : ℕ) → n < 10 ^ most → 1 ≤ most → n ≤ limit → is_numeral most limit (decimal n) ≡ true
unfolding is_numeral
decimal_numeral most limit n h k l =
    rw (le-leb _ _ (decimal_some n), le-leb _ _ (decimal-length n most h k), decimal-every n, value-decimal n, le-leb _ _ l)

-- ---- digits without the zeros before them

-- digits after a number other than 0 go on printing it
decimal_on : (n : ℕ) (xs : List ℕ) → 1 ≤ n → every is_digit xs ≡ true → decimal (value_from n xs) ≡ decimal n ++ xs
decimal_on n [] h e = sym (append-nil (decimal n))
decimal_on n (x ∷ xs) h e =
    let b = digit_bounds x (and_left (is_digit x) (every is_digit xs) e) in
    let m = 10 * n + (x - 48) in
    let quotient : (10 * n + (x - 48)) / 10 ≡ n = omega (arith, b) in
    let digit : 48 + (10 * n + (x - 48)) % 10 ≡ x = omega (arith, b) in
    let one : decimal (10 * n + (x - 48)) ≡ decimal n ++ (x ∷ []) = decimal_more (10 * n + (x - 48)) (omega arith) ∙ rw (quotient, digit) in
    decimal_on (10 * n + (x - 48)) xs (omega arith) (and_right (is_digit x) (every is_digit xs) e) ∙ rw one (append_assoc (decimal n) (x ∷ []) xs)

-- printing the value of digits drops the zeros before them
pub decimal-value : (ds : List ℕ) → 1 ≤ length ds → every is_digit ds ≡ true → decimal (value ds) ≡ drop (leading_zeros ds) ds
decimal-value [] h e = absurd (not-suc-le-zero h)
decimal-value (c ∷ []) h e =
    let b = digit_bounds c (and_left (is_digit c) true e) in
    let q : 48 + (10 * 0 + (c - 48)) ≡ c = omega (arith, b) in
    decimal-small (10 * 0 + (c - 48)) (omega (arith, b)) ∙ rw q
decimal-value (c ∷ d ∷ ds) h e =
    let rest = and_right (is_digit c) (every is_digit (d ∷ ds)) e in
    let b = digit_bounds c (and_left (is_digit c) (every is_digit (d ∷ ds)) e) in
    cases (eqb c 48)
    (λ z. rw z (rw (eqb-true c 48 z) (decimal-value (d ∷ ds) (omega arith) rest)))
    (λ z.
    let n = eqb-false c 48 z in
    let q : 48 + (10 * 0 + (c - 48)) ≡ c = omega (arith, b) in
    let k : 1 ≤ 10 * 0 + (c - 48) = omega (arith, b, n) in
    rw z (decimal_on (10 * 0 + (c - 48)) (d ∷ ds) k rest ∙ rw (decimal-small (10 * 0 + (c - 48)) (omega (arith, b)), q)))

pub zeros-below : (ds : List ℕ) → 1 ≤ length ds → leading_zeros ds < length ds
zeros-below [] h = absurd (not-suc-le-zero h)
zeros-below (c ∷ []) h = omega arith
zeros-below (c ∷ d ∷ ds) h =
    let l = zeros-below (d ∷ ds) (omega arith) in
    cases (eqb c 48) (λ z. rw z (omega arith)) (λ z. rw z (omega arith))

-- a number printed has none
pub decimal_no_zeros : (n : ℕ) → leading_zeros (decimal n) ≡ 0
decimal_no_zeros n =
    let ds = decimal n in
    let kept : decimal n ≡ drop (leading_zeros ds) ds = ap decimal (sym (value-decimal n)) ∙ decimal-value ds (decimal_some n) (decimal-every n) in
    omega (arith, ap length kept, length-drop (leading_zeros ds) ds, zeros-below ds (decimal_some n))

-- ---- a count of the zeros before the others

-- i zeros are counted
pub record ZerosTo (ds : List ℕ) (i : ℕ) : Type 0 where
  pub so_far : leading_zeros ds ≡ i + leading_zeros (drop i ds)

pub zeros-none : (ds : List ℕ) → ZerosTo ds 0
zeros-none ds = record { so_far = omega arith }

-- i zeros before the last digit
pub zeros-before : (i : ℕ) (ds : List ℕ) → every is_zero (take i ds) ≡ true → i < length ds → ZerosTo ds i
zeros-before zero ds e h = zeros-none ds
zeros-before (suc i) [] e h = absurd (not-suc-le-zero h)
zeros-before (suc i) (c ∷ []) e h = absurd (omega arith)
zeros-before (suc i) (c ∷ d ∷ ds) e h =
    let p = (zeros-before i (d ∷ ds) (and_right (eqb c 48) _ e) (omega arith)).so_far in
    record { so_far = rw (and_left (eqb c 48) _ e) (ap suc p ∙ sym (suc-add _ _)) }

module _ (ds : List ℕ) (i : ℕ) (z : ZerosTo ds i) where
  -- a digit that is not the last
  module _ (h : i + 1 < length ds) where
    two : drop i ds ≡ get_or ds i 0 ∷ get_or ds (suc i) 0 ∷ drop (suc (suc i)) ds
    two = drop-cons ds i 0 (omega arith) ∙ ap (λ (l : List ℕ). get_or ds i 0 ∷ l) (drop-cons ds (suc i) 0 (omega arith))

    pub zeros-next : get_or ds i 0 ≡ 48 → ZerosTo ds (i + 1)
    zeros-next e =
        let one : drop (suc i) ds ≡ get_or ds (suc i) 0 ∷ drop (suc (suc i)) ds = drop-cons ds (suc i) 0 (omega arith) in
        rw add-one (record { so_far = z.so_far ∙ rw (two, eq-eqb _ _ e, one) (omega arith) })

    pub zeros-stop : get_or ds i 0 ≢ 48 → i ≡ leading_zeros ds
    zeros-stop n = sym (z.so_far ∙ rw (two, ne_eqb _ _ n) (omega arith))

  pub zeros_end : length ds ≤ i + 1 → i ≡ leading_zeros ds
  zeros_end h = sym (z.so_far ∙ ap (λ (n : ℕ). i + n) (short (drop i ds) (omega (arith, length-drop i ds))) ∙ omega arith)
    where
      short : (xs : List ℕ) → length xs ≤ 1 → leading_zeros xs ≡ 0
      short [] l = refl
      short (x ∷ []) l = refl
      short (x ∷ y ∷ ys) l = absurd (omega arith)
