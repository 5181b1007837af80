-- What the code finds of a line, field after field.
use Rattle.std.proofs.Common.{◌≡◌, ℕ, suc, ◌+◌, ◌-◌, ◌<◌, ◌≤◌, Bool, true, false, eqb, List, [], ◌∷◌, ◌++◌, Some, None, length, get_or, drop, sym, refl, ap, ◌∙◌, arith, length-drop, drop-drop, eqb-true}
use mathlib.Core.Bool.{false≢true}
use lib.Seq.{get_or-append_seam}
use Rattle.memory.specs.Bytes.{part}
use Rattle.memory.proofs.Bytes.{rest-whole}
use Rattle.scan.proofs.Scan.{and_left, and_right, is_false}
use Rattle.text.specs.Decimal.{is_digit, value}
use Rattle.text.specs.Marks.{LF, comma, fields}
use Rattle.text.specs.Runs.{run, front}
use Rattle.text.proofs.Runs.{run_join, front-join, mark_within, front-split, length_run}
use Rattle.trip_list.specs.declared.Number as number
use Rattle.trip_list.specs.Trip.{Trip, trip, is_driver_byte, is_number, is_driver, field, line_of}
use Rattle.trip_list.specs.Lines.{first_line, has_line, first_trip, line_length, driver_start}
use Rattle.trip_list.specs.Scanner.{field_before, number_field, driver_field, NumberRead, DriverRead, LineRead}
use Rattle.trip_list.proofs.Lines.{number_digits, driver-every, LF_no_driver, after_mark, Three, minute_of, metres_of, driver_of, Texts, texts, line-fields, line_has, line-trip, line_length_lem, line-driver}

-- ---- a field, its mark, and what comes after

module _ (m r : List ℕ) (e : is_number m ≡ true) where
  number-run : run is_digit (m ++ (comma ∷ r)) ≡ length m
  number-run = run_join is_digit m comma r (number_digits m e) refl

  number-front : front is_digit (m ++ (comma ∷ r)) ≡ m
  number-front = front-join is_digit m comma r (number_digits m e) refl

  number_field_lem : number_field (m ++ (comma ∷ r)) ≡ true
  unfolding number_field
  number_field_lem = rw (number-front, number-run, get_or-append_seam m comma r 0, e)

driver_field_lem : (d r : List ℕ) → is_driver d ≡ true → driver_field (d ++ (LF ∷ r)) ≡ true
unfolding driver_field
driver_field_lem d r e =
    let n = run_join is_driver_byte d LF r (driver-every d e) LF_no_driver in
    let f = front-join is_driver_byte d LF r (driver-every d e) LF_no_driver in
    rw (f, n, get_or-append_seam d LF r 0, e)

-- a field that is found in front
pub record Split (t : ℕ → Bool) (is_field : List ℕ → Bool) (mark : ℕ) (s : List ℕ) : Type 0 where
  pub text : is_field (front t s) ≡ true
  pub within : run t s < length s
  pub whole : s ≡ front t s ++ (mark ∷ drop (run t s + 1) s)

-- its mark is not 0, so it stands within the bytes
field-split : (m : ℕ) (t : ℕ → Bool) (is_field : List ℕ → Bool) (s : List ℕ) → field_before (suc m) t is_field s ≡ true → Split t is_field (suc m) s
field-split m t is_field s e =
    let c = eqb (get_or s (run t s) 0) (suc m) in
    let q : c ≡ true = and_right (is_field (front t s)) c e in
    let w = mark_within s (run t s) m q in
    record { text = and_left (is_field (front t s)) c e; within = w; whole = front-split t s (suc m) (eqb-true _ _ q) w }

pub number-split : (s : List ℕ) → number_field s ≡ true → Split is_digit is_number comma s
unfolding number_field
number-split s e = field-split 43 is_digit is_number s e

pub driver-split : (s : List ℕ) → driver_field s ≡ true → Split is_driver_byte is_driver LF s
unfolding driver_field
driver-split s e = field-split 9 is_driver_byte is_driver s e

-- ---- a line

-- a line would have had the field
no_line_lem : (s : List ℕ) (is_field : Bool) → (Texts s → is_field ≡ true) → false ≡ is_field → false ≡ has_line s
no_line_lem s is_field has e = sym (is_false (has_line s) (λ h. false≢true (e ∙ has (texts s h))))

module _ (s : List ℕ) where
  pub no_minute_lem : NumberRead s None → false ≡ has_line s
  no_minute_lem r = no_line_lem s (number_field s) (λ t. ap number_field t.whole ∙ number_field_lem (minute_of s) _ t.three.minute) r.told

  module _ (minute : number.Number) (r : NumberRead s (Some minute)) where
    first : Split is_digit is_number comma s
    first = number-split s (sym r.told)

    digits : minute.digits ≡ run is_digit s
    digits = r.read.1

    pub second-within : minute.digits + 1 ≤ length s
    second-within = omega (arith, first.within, digits)

    -- the bytes after the minute
    abbrev u : List ℕ
    u = part s (minute.digits + 1) (length s - (minute.digits + 1))

    w : u ≡ drop (minute.digits + 1) s
    w = rest-whole (minute.digits + 1) s

    -- the rest of a line that has the form
    after-minute : (t : Texts s) → u ≡ metres_of s ++ (comma ∷ driver_of s ++ (LF ∷ drop (line_length s) s))
    after-minute t =
        let n : run is_digit s ≡ length (minute_of s) = ap (run is_digit) t.whole ∙ number-run (minute_of s) _ t.three.minute in
        w
        ∙ ap (λ (k : ℕ). drop (k + 1) s) (digits ∙ n)
        ∙ ap (drop (length (minute_of s) + 1)) t.whole
        ∙ after_mark (minute_of s) comma _

    pub no_metres : NumberRead u None → false ≡ has_line s
    no_metres q = no_line_lem s (number_field u) (λ t. ap number_field (after-minute t) ∙ number_field_lem (metres_of s) _ t.three.metres) q.told

    module _ (metres : number.Number) (q : NumberRead u (Some metres)) where
      second : Split is_digit is_number comma u
      second = number-split u (sym q.told)

      digits2 : metres.digits ≡ run is_digit u
      digits2 = q.read.1

      length_rest : length u ≡ length s - (minute.digits + 1)
      length_rest = ap length w ∙ length-drop (minute.digits + 1) s

      pub third_within : minute.digits + 1 + metres.digits + 1 ≤ length s
      third_within = omega (arith, second.within, digits2, length_rest, second-within)

      -- and those after the metres
      abbrev x : List ℕ
      x = part s (minute.digits + 1 + metres.digits + 1) (length s - (minute.digits + 1 + metres.digits + 1))

      y : x ≡ drop (minute.digits + 1 + metres.digits + 1) s
      y = rest-whole (minute.digits + 1 + metres.digits + 1) s

      rest_at : drop (metres.digits + 1) u ≡ x
      rest_at =
          let n : minute.digits + 1 + (metres.digits + 1) ≡ minute.digits + 1 + metres.digits + 1 = omega arith in
          ap (drop (metres.digits + 1)) w ∙ drop-drop (metres.digits + 1) (minute.digits + 1) s ∙ ap (λ (k : ℕ). drop k s) n ∙ sym y

      after-metres : (t : Texts s) → x ≡ driver_of s ++ (LF ∷ drop (line_length s) s)
      after-metres t =
          let a = after-minute t in
          let n : run is_digit u ≡ length (metres_of s) = ap (run is_digit) a ∙ number-run (metres_of s) _ t.three.metres in
          sym rest_at
          ∙ ap (λ (k : ℕ). drop (k + 1) u) (digits2 ∙ n)
          ∙ ap (drop (length (metres_of s) + 1)) a
          ∙ after_mark (metres_of s) comma _

      pub no_driver : DriverRead x None → false ≡ has_line s
      no_driver p = no_line_lem s (driver_field x) (λ t. ap driver_field (after-metres t) ∙ driver_field_lem (driver_of s) _ t.three.driver) p.told

      module _ (n : ℕ) (p : DriverRead x (Some n)) where
        third : Split is_driver_byte is_driver LF x
        third = driver-split x (sym p.told)

        letters : n ≡ run is_driver_byte x
        letters = p.read

        pub end_within : minute.digits + 1 + metres.digits + 1 + n + 1 ≤ length s
        end_within = omega (arith, third.within, letters, ap length y ∙ length-drop (minute.digits + 1 + metres.digits + 1) s, third_within)

        abbrev M : List ℕ
        M = front is_digit s

        abbrev K : List ℕ
        K = front is_digit u

        abbrev D : List ℕ
        D = front is_driver_byte x

        three : Three M K D
        three = record { minute = first.text; metres = second.text; driver = third.text }

        abbrev R : List ℕ
        R = drop (run is_driver_byte x + 1) x

        whole : s ≡ line_of M K D R
        whole =
            first.whole
            ∙ ap (λ (l : List ℕ). M ++ (comma ∷ l))
            (ap (λ (k : ℕ). drop (k + 1) s) (sym digits) ∙ sym w ∙ second.whole
            ∙ ap (λ (l : List ℕ). K ++ (comma ∷ l)) (ap (λ (k : ℕ). drop (k + 1) u) (sym digits2) ∙ rest_at ∙ third.whole))

        found : first_trip s ≡ trip (value M) (value K) D
        found = ap first_trip whole ∙ line-trip M K D R three

        found-fields : fields (first_line s) ≡ M ∷ K ∷ D ∷ []
        found-fields = ap (λ (l : List ℕ). fields (first_line l)) whole ∙ line-fields M K D R three

        found-length : line_length s ≡ length M + length K + length D + 3
        found-length = ap line_length whole ∙ line_length_lem M K D R three

        found-driver : driver_start s ≡ length M + 1 + (length K + 1)
        found-driver = ap driver_start whole ∙ line-driver M K D R three

        pub line-found : LineRead s (Some (record {
          minute = minute.value;
          metres = metres.value;
          second = minute.digits + 1;
          driver = minute.digits + 1 + metres.digits + 1;
          letters = n;
          length = minute.digits + 1 + metres.digits + 1 + n + 1;
        }))
        line-found =
            let lm : length M ≡ minute.digits = length_run is_digit s ∙ sym digits in
            let lk : length K ≡ metres.digits = length_run is_digit u ∙ sym digits2 in
            let ld : length D ≡ n = length_run is_driver_byte x ∙ sym letters in
            let f0 : field 0 (first_line s) ≡ M = ap (λ (ts : List (List ℕ)). get_or ts 0 []) found-fields in
            record {
              told = sym (ap has_line whole ∙ line_has M K D R three);
              read = record {
                minute = r.read.0 ∙ sym (ap (λ (t : Trip). t.minute) found);
                metres = q.read.0 ∙ sym (ap (λ (t : Trip). t.metres) found);
                second = omega (arith, ap length f0, lm);
                driver = omega (arith, found-driver, lm, lk);
                letters = sym (ap (λ (t : Trip). length t.driver) found ∙ ld);
                size = omega (arith, found-length, lm, lk, ld);
              };
            }
