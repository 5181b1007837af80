-- A line has the form exactly where it is a number, a comma, a number, a comma, a driver and LF; and what the code finds of it.
use Rattle.std.proofs.Common.{◌≡◌, ℕ, ◌+◌, ◌<◌, ◌≤◌, true, false, eqb, ltb, leb, List, [], ◌∷◌, ◌++◌, length, get_or, drop, sym, refl, ap, ◌∙◌, append_assoc, add-one, arith, length-append, take-append-drop, drop-cons, ltb-true, lt-ltb, ne_eqb, eqb-true, leb-true}
use lib.Seq.{drop-append-add, take-append_seam}
use borrow.Table.Steps.{cases}
use Rattle.memory.proofs.Bytes.{length_front}
use Rattle.scan.specs.Scan.{every, first_index}
use Rattle.scan.proofs.Scan.{and_left, and_right, all_of_at, every-join, every_impl, first_le, first_passes, first-join}
use Rattle.text.specs.Decimal.{is_digit, value}
use Rattle.text.specs.Marks.{LF, comma, is_mark, fields}
use Rattle.text.proofs.Decimal.{numeral}
use Rattle.text.proofs.Marks.{is_other, parts-after, parts-alone, between, parts_between}
use Rattle.trip_list.specs.Trip.{trip, greatest_number, is_driver_byte, is_number, is_driver, field, has_form, trip_of, line_of}
use Rattle.trip_list.specs.Lines.{first_line, has_line, first_trip, line_length, driver_start}

-- ---- texts that are fields

driver_tests : (d : List ℕ) → is_driver d ≡ true → (length d ≤ 16) × (every is_driver_byte d ≡ true)
unfolding is_driver
driver_tests d e =
    let at = all_of_at (leb 1 (length d) ∷ leb (length d) 16 ∷ every is_driver_byte d ∷ []) e in
    (leb-true (length d) 16 (at 1), at 2)

pub driver-few : (d : List ℕ) → is_driver d ≡ true → length d ≤ 16
driver-few d e = (driver_tests d e).0

pub driver-every : (d : List ℕ) → is_driver d ≡ true → every is_driver_byte d ≡ true
driver-every d e = (driver_tests d e).1

-- no byte of a driver is below the digits
driver-above : (c : ℕ) → is_driver_byte c ≡ true → 48 ≤ c
unfolding is_driver_byte
driver-above c e =
    cases (leb 48 c)
    (λ h. leb-true 48 c h)
    (λ h. let g = rw h at e in let k = leb-true 65 c (and_left (leb 65 c) (leb c 90) g) in omega (arith, k))

digit_driver : (c : ℕ) → is_digit c ≡ true → is_driver_byte c ≡ true
unfolding is_driver_byte
digit_driver c e = rw e

-- so it is neither a comma nor LF
other : (mark : ℕ) → mark < 48 → (c : ℕ) → is_driver_byte c ≡ true → is_other mark c ≡ true
other mark h c e = let k = driver-above c e in let q : ¬ (c ≡ mark) = λ q. absurd (omega arith) in rw (ne_eqb c mark q)

no_mark : (mark : ℕ) → mark < 48 → (xs : List ℕ) → every is_driver_byte xs ≡ true → every (is_other mark) xs ≡ true
no_mark mark h xs e = every_impl is_driver_byte (is_other mark) (other mark h) xs e

digits-driver : (xs : List ℕ) → every is_digit xs ≡ true → every is_driver_byte xs ≡ true
digits-driver xs e = every_impl is_digit is_driver_byte digit_driver xs e

pub LF_no_driver : is_driver_byte LF ≡ false
unfolding is_driver_byte
LF_no_driver = refl

-- what stands after a text and its mark
pub after_mark : (xs : List ℕ) (y : ℕ) (ys : List ℕ) → drop (length xs + 1) (xs ++ (y ∷ ys)) ≡ ys
after_mark xs y ys = drop-append-add xs (y ∷ ys) 1

-- ---- a line by its three texts

-- without its LF
abbrev pub text_of : List ℕ → List ℕ → List ℕ → List ℕ
text_of m k d = m ++ (comma ∷ k ++ (comma ∷ d))

text-line : (m k d r : List ℕ) → line_of m k d r ≡ text_of m k d ++ (LF ∷ r)
text-line m k d r = simp append_assoc

length-text : (m k d : List ℕ) → length (text_of m k d) ≡ length m + length k + length d + 2
length-text m k d = simp length-append (omega arith)

pub record Three (m k d : List ℕ) : Type 0 where
  pub minute : is_number m ≡ true
  pub metres : is_number k ≡ true
  pub driver : is_driver d ≡ true

pub number_digits : (m : List ℕ) → is_number m ≡ true → every is_digit m ≡ true
number_digits m e = (numeral 10 greatest_number m e).digits

pub number_small : (m : List ℕ) → is_number m ≡ true → value m ≤ greatest_number
number_small m e = (numeral 10 greatest_number m e).small

pub number-few : (m : List ℕ) → is_number m ≡ true → length m ≤ 10
number-few m e = (numeral 10 greatest_number m e).few

number-letters : (m : List ℕ) → is_number m ≡ true → every is_driver_byte m ≡ true
number-letters m e = digits-driver m (number_digits m e)

-- a number has no comma and no LF
number_marks : (mark : ℕ) → mark < 48 → (m : List ℕ) → is_number m ≡ true → every (is_other mark) m ≡ true
number_marks mark h m e = no_mark mark h m (number-letters m e)

module _ (m k d r : List ℕ) (t : Three m k d) where
  text_no_LF : every (is_other LF) (text_of m k d) ≡ true
  text_no_LF =
      every-join (is_other LF) m (comma ∷ k ++ (comma ∷ d)) (number_marks LF (omega arith) m t.minute)
      (every-join (is_other LF) k (comma ∷ d) (number_marks LF (omega arith) k t.metres) (no_mark LF (omega arith) d (driver-every d t.driver)))

  first-LF : first_index (is_mark LF) (line_of m k d r) ≡ length (text_of m k d)
  first-LF = rw (text-line m k d r) (first-join (is_mark LF) (text_of m k d) LF r text_no_LF refl)

  pub line_first : first_line (line_of m k d r) ≡ text_of m k d
  unfolding first_line
  line_first = rw first-LF (rw (text-line m k d r) (take-append_seam (text_of m k d) (LF ∷ r)))

  text-fields : fields (text_of m k d) ≡ m ∷ k ∷ d ∷ []
  text-fields =
      parts-after comma m (k ++ (comma ∷ d)) (number_marks comma (omega arith) m t.minute)
      ∙ ap (λ (ts : List (List ℕ)). m ∷ ts)
      (parts-after comma k d (number_marks comma (omega arith) k t.metres)
      ∙ ap (λ (ts : List (List ℕ)). k ∷ ts) (parts-alone comma d (no_mark comma (omega arith) d (driver-every d t.driver))))

  pub line-fields : fields (first_line (line_of m k d r)) ≡ m ∷ k ∷ d ∷ []
  line-fields = ap fields line_first ∙ text-fields

  pub line_has : has_line (line_of m k d r) ≡ true
  unfolding has_line has_form
  line_has =
      let l : length (text_of m k d) < length (line_of m k d r) = rw (text-line m k d r) (omega (arith, length-append (text_of m k d) (LF ∷ r))) in
      rw (first-LF, lt-ltb _ _ l, line-fields, t.minute, t.metres, t.driver)

  pub line-trip : first_trip (line_of m k d r) ≡ trip (value m) (value k) d
  unfolding first_trip trip_of
  line-trip = rw line-fields

  pub line_length_lem : line_length (line_of m k d r) ≡ length m + length k + length d + 3
  unfolding line_length
  line_length_lem = rw line_first (omega (arith, length-text m k d))

  pub line-driver : driver_start (line_of m k d r) ≡ length m + 1 + (length k + 1)
  unfolding driver_start
  line-driver = rw (line_first, line-trip) (omega (arith, length-text m k d))

  pub line-rest : drop (line_length (line_of m k d r)) (line_of m k d r) ≡ r
  unfolding line_length
  line-rest = rw line_first (rw (text-line m k d r) (after_mark (text_of m k d) LF r))

-- ---- a line that has the form is made of three texts

abbrev pub minute_of : List ℕ → List ℕ
minute_of s = field 0 (first_line s)

abbrev pub metres_of : List ℕ → List ℕ
metres_of s = field 1 (first_line s)

abbrev pub driver_of : List ℕ → List ℕ
driver_of s = field 2 (first_line s)

pub record Texts (s : List ℕ) : Type 0 where
  pub three : Three (minute_of s) (metres_of s) (driver_of s)
  pub whole : s ≡ line_of (minute_of s) (metres_of s) (driver_of s) (drop (line_length s) s)

three_of : (ts : List (List ℕ)) → length ts ≡ 3 → ts ≡ get_or ts 0 [] ∷ get_or ts 1 [] ∷ get_or ts 2 [] ∷ []
three_of [] e = absurd (omega arith)
three_of (a ∷ []) e = absurd (omega arith)
three_of (a ∷ b ∷ []) e = absurd (omega arith)
three_of (a ∷ b ∷ c ∷ []) e = refl
three_of (a ∷ b ∷ c ∷ d ∷ ds) e = absurd (omega arith)

pub texts : (s : List ℕ) → has_line s ≡ true → Texts s
unfolding has_line has_form line_length first_line
texts s e =
    let l = first_line s in
    let i = first_index (is_mark LF) s in
    let inside : i < length s = ltb-true i (length s) (and_left (ltb i (length s)) (has_form l) e) in
    let at = all_of_at (eqb (length (fields l)) 3 ∷ is_number (field 0 l) ∷ is_number (field 1 l) ∷ is_driver (field 2 l) ∷ []) (and_right (ltb i (length s)) (has_form l) e) in
    let mark : get_or s i 0 ≡ LF = eqb-true (get_or s i 0) LF (first_passes (is_mark LF) s 0 inside) in
    let text : text_of (minute_of s) (metres_of s) (driver_of s) ≡ l = sym (ap (between comma) (three_of (fields l) (eqb-true (length (fields l)) 3 (at 0)))) ∙ parts_between comma l in
    let size : length l ≡ i = length_front i s (first_le (is_mark LF) s) in
    record {
      three = record { minute = at 1; metres = at 2; driver = at 3 };
      whole =
          sym (take-append-drop i s)
          ∙ rw (drop-cons s i 0 inside, mark, size, ← add-one i)
          (ap (λ (xs : List ℕ). xs ++ (LF ∷ drop (i + 1) s)) (sym text) ∙ sym (text-line (minute_of s) (metres_of s) (driver_of s) (drop (i + 1) s)));
    }
