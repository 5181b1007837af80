-- Laws of a list, one line after another.
use Rattle.std.proofs.Common.{◌≡◌, ℕ, suc, ◌+◌, ◌<◌, ◌≤◌, Bool, true, false, cond, ◌&&◌, eqb, ltb, leb, ◌≢◌, List, [], ◌∷◌, length, get_or, take, drop, sym, refl, ap, ◌∙◌, not-suc-le-zero, arith, length-drop, drop_of_length-le, drop-cons, ltb-false, ltb-true, ne_eqb, eqb-true, le-leb, leb-false, leb-true}
use mathlib.Core.Bool.{false≢true}
use borrow.Author.Tests.{lt-leb}
use borrow.Table.Steps.{cases}
use Rattle.answer.specs.Coded.{Coded, done, RANGE, TRIP_FORM, TRIP_ORDER}
use Rattle.memory.proofs.Bytes.{length_front}
use Rattle.scan.specs.Scan.{first_index}
use Rattle.scan.proofs.Scan.{and_left, and_right, first_le}
use Rattle.text.specs.Marks.{LF, is_mark, parts}
use Rattle.text.proofs.Marks.{parts-split}
use Rattle.trip_list.specs.Trip.{Trip, has_form, trip_of}
use Rattle.trip_list.specs.List.{Parsed, trips, refusal, before, parse_lines, parse_from, parse, trips_of, Trips, greatest_list, answer_of, list_answer}
use Rattle.trip_list.specs.Lines.{first_line, has_line, first_trip, line_length}

-- ---- the first line

pub line_some : (s : List ℕ) → 1 ≤ line_length s
unfolding line_length
line_some s = omega arith

pub line-within : (s : List ℕ) → has_line s ≡ true → line_length s ≤ length s
unfolding line_length first_line has_line
line-within s e =
    let i = first_index (is_mark LF) s in
    omega (arith, ltb-true i (length s) (and_left (ltb i (length s)) _ e), length_front i s (first_le (is_mark LF) s))

-- a line, and the texts of the rest
lines_next : (least : ℕ) (line r : List ℕ) → parse_lines least (line ∷ parts LF r)
    ≡ cond (has_form line)
    (cond (leb least (trip_of line).minute) (before (trip_of line) (parse_from ((trip_of line).minute + 1) r)) (refusal TRIP_ORDER))
    (refusal TRIP_FORM)
unfolding parse_from
lines_next least line r = rw (parts-split LF r)

module _ (least : ℕ) where
  pub from_end : (s : List ℕ) → length s ≤ 0 → parse_from least s ≡ trips []
  unfolding parse_from
  from_end [] h = refl
  from_end (x ∷ xs) h = absurd (not-suc-le-zero h)

  module _ (s : List ℕ) (some : 0 < length s) where
    abbrev end : ℕ
    end = first_index (is_mark LF) s

    size : length (take end s) ≡ end
    size = length_front end s (first_le (is_mark LF) s)

    from-line : ltb end (length s) ≡ true → parse_from least s ≡ parse_lines least (first_line s ∷ parts LF (drop (line_length s) s))
    unfolding parse_from first_line line_length
    from-line e =
        let q : suc end ≡ length (take end s) + 1 = omega (arith, size) in
        rw (parts-split LF s, drop-cons s end 0 (ltb-true _ _ e), q)

    from_last : ltb end (length s) ≡ false → parse_from least s ≡ refusal TRIP_FORM
    unfolding parse_from
    from_last e =
        let h = ltb-false end (length s) e in
        let n : length (take end s) ≢ 0 = λ q. absurd (omega (arith, size)) in
        rw (parts-split LF s, drop_of_length-le s h, ne_eqb (length (take end s)) 0 n)

    pub from_step : parse_from least s
        ≡ cond (has_line s)
        (cond (leb least (first_trip s).minute) (before (first_trip s) (parse_from ((first_trip s).minute + 1) (drop (line_length s) s))) (refusal TRIP_ORDER))
        (refusal TRIP_FORM)
    unfolding has_line first_trip
    from_step =
        cases (ltb end (length s))
        (λ e. from-line e ∙ lines_next least (first_line s) (drop (line_length s) s) ∙ rw e)
        (λ e. from_last e ∙ rw e)

    pub from-malformed : has_line s ≡ false → parse_from least s ≡ refusal TRIP_FORM
    from-malformed e = from_step ∙ rw e

    module _ (e : has_line s ≡ true) where
      pub from_falling : (first_trip s).minute < least → parse_from least s ≡ refusal TRIP_ORDER
      from_falling h = from_step ∙ rw (e, lt-leb _ _ h)

      pub from_next : least ≤ (first_trip s).minute → parse_from least s ≡ before (first_trip s) (parse_from ((first_trip s).minute + 1) (drop (line_length s) s))
      from_next h = from_step ∙ rw (e, le-leb _ _ h)

-- ---- accepted lists

abbrev pub Accepted : List ℕ → Type 0
Accepted list = Trips (parse list)

-- 1 for trips, 0 for a refusal
kind : Parsed → ℕ
kind (trips ts) = 1
kind (refusal a) = 0

pub not_both : {A : Type 0} (p : Parsed) (ts : List Trip) (a : Coded) → p ≡ trips ts → p ≡ refusal a → A
unfolding kind
not_both p ts a e f = let z : ◌≡◌ {A = ℕ} 1 0 = ap kind (sym e ∙ f) in absurd (omega arith)

before_inverse : (u : Trip) (p : Parsed) (t : Trip) (ts : List Trip) → before u p ≡ trips (t ∷ ts) → (u ≡ t) × (p ≡ trips ts)
before_inverse u (trips us) t ts e = (ap (λ (q : Parsed). get_or (trips_of q) 0 u) e, ap (λ (q : Parsed). trips (drop 1 (trips_of q))) e)
before_inverse u (refusal a) t ts e = not_both (refusal a) (t ∷ ts) a e refl

before_some : {A : Type 0} (u : Trip) (p : Parsed) → before u p ≡ trips [] → A
before_some u (trips us) e = let z : ◌≡◌ {A = ℕ} (length (u ∷ us)) 0 = ap (λ (q : Parsed). length (trips_of q)) e in absurd (omega arith)
before_some u (refusal a) e = not_both (refusal a) [] a e refl

-- the bytes of a list that begins with a trip
pub record First (least : ℕ) (s : List ℕ) (t : Trip) (ts : List Trip) : Type 0 where
  pub some : 0 < length s
  pub form : has_line s ≡ true
  pub rises : least ≤ t.minute
  pub trip : first_trip s ≡ t
  pub rest : parse_from (t.minute + 1) (drop (line_length s) s) ≡ trips ts

module _ (least : ℕ) (s : List ℕ) where
  abbrev later : Parsed
  later = parse_from ((first_trip s).minute + 1) (drop (line_length s) s)

  pub parsed-none : parse_from least s ≡ trips [] → length s ≡ 0
  parsed-none e =
      cases (ltb 0 (length s))
      (λ some.
      let h = ltb-true 0 (length s) some in
      cases (has_line s)
      (λ f. cases (leb least (first_trip s).minute)
      (λ l. before_some (first_trip s) later (sym (from_next least s h f (leb-true _ _ l)) ∙ e))
      (λ l. not_both (parse_from least s) [] TRIP_ORDER e (from_falling least s h f (leb-false _ _ l))))
      (λ f. not_both (parse_from least s) [] TRIP_FORM e (from-malformed least s h f)))
      (λ none. let h = ltb-false 0 (length s) none in omega arith)

  module _ (t : Trip) (ts : List Trip) where
    pub parsed-first : parse_from least s ≡ trips (t ∷ ts) → First least s t ts
    parsed-first e =
        cases (ltb 0 (length s))
        (λ some.
        let h = ltb-true 0 (length s) some in
        cases (has_line s)
        (λ f. cases (leb least (first_trip s).minute)
        (λ l.
        let b = before_inverse (first_trip s) later t ts (sym (from_next least s h f (leb-true _ _ l)) ∙ e) in
        record {
          some = h;
          form = f;
          rises = omega (arith, leb-true least (first_trip s).minute l, ap (λ (u : Trip). u.minute) b.0);
          trip = b.0;
          rest = ap (λ (u : Trip). parse_from (u.minute + 1) (drop (line_length s) s)) (sym b.0) ∙ b.1;
        })
        (λ l. not_both (parse_from least s) (t ∷ ts) TRIP_ORDER e (from_falling least s h f (leb-false _ _ l))))
        (λ f. not_both (parse_from least s) (t ∷ ts) TRIP_FORM e (from-malformed least s h f)))
        (λ none.
        let z : ◌≡◌ {A = ℕ} (length (t ∷ ts)) 0 = ap (λ (q : Parsed). length (trips_of q)) (sym e ∙ from_end least s (ltb-false 0 (length s) none)) in
        absurd (omega arith))

-- ---- the answer for a list

-- a refusal has a number other than 0, and count 0
honest : Parsed → Bool
honest (trips ts) = true
honest (refusal a) = ltb 0 a.number && eqb a.count 0

honest_before : (t : Trip) (p : Parsed) → honest p ≡ true → honest (before t p) ≡ true
unfolding honest
honest_before t (trips ts) e = refl
honest_before t (refusal a) e = e

honest_lines : (least : ℕ) (ts : List (List ℕ)) → honest (parse_lines least ts) ≡ true
unfolding honest
honest_lines least [] = refl
honest_lines least (last ∷ []) = cases (eqb (length last) 0) (λ e. rw e) (λ e. rw e)
honest_lines least (line ∷ next ∷ more) =
    cases (has_form line)
    (λ f. cases (leb least (trip_of line).minute)
    (λ l. rw (f, l) (honest_before (trip_of line) (parse_lines ((trip_of line).minute + 1) (next ∷ more)) (honest_lines ((trip_of line).minute + 1) (next ∷ more))))
    (λ l. rw (f, l)))
    (λ f. rw f)

honest_list : (list : List ℕ) → honest (parse list) ≡ true
unfolding parse parse_from
honest_list list = honest_lines 0 (parts LF list)

accepted_of : (p : Parsed) (n : ℕ) → honest p ≡ true → answer_of p ≡ done n → Trips p
unfolding honest
accepted_of (trips ts) n h e = refl
accepted_of (refusal a) n h e = absurd (false≢true (rw e at h))

-- no list has more trips than bytes
pub few-trips : (least : ℕ) (s : List ℕ) (ts : List Trip) → parse_from least s ≡ trips ts → length ts ≤ length s
few-trips least s [] e = omega arith
few-trips least s (t ∷ ts) e =
    let f = parsed-first least s t ts e in
    omega (arith, few-trips (t.minute + 1) (drop (line_length s) s) ts f.rest, length-drop (line_length s) s, line_some s, f.some)

counted-few : (p : Parsed) (n : ℕ) → honest p ≡ true → ((ts : List Trip) → p ≡ trips ts → length ts ≤ n) → (answer_of p).count ≤ n
unfolding honest
counted-few (trips ts) n h few = few ts refl
counted-few (refusal a) n h few = omega (arith, eqb-true a.count 0 (and_right (ltb 0 a.number) (eqb a.count 0) h))

pub accepted_count : (p : Parsed) (n : ℕ) → Trips p → answer_of p ≡ done n → length (trips_of p) ≡ n
accepted_count (trips ts) n a e = ap (λ (c : Coded). c.count) e
accepted_count (refusal b) n a e = not_both (refusal b) [] b a refl

module _ (list : List ℕ) where
  pub list-range : greatest_list < length list → RANGE ≡ list_answer list
  unfolding list_answer
  list-range h = rw (lt-leb _ _ h)

  pub list-parsed : length list ≤ greatest_list → answer_of (parse list) ≡ list_answer list
  unfolding list_answer
  list-parsed h = rw (le-leb _ _ h)

  pub list_count : (list_answer list).count ≤ greatest_list
  unfolding parse
  list_count =
      cases (leb (length list) greatest_list)
      (λ l.
      let h = leb-true (length list) greatest_list l in
      let c = counted-few (parse_from 0 list) (length list) (honest_list list) (few-trips 0 list) in
      omega (arith, c, ap (λ (a : Coded). a.count) (list-parsed h)))
      (λ l. omega (arith, ap (λ (a : Coded). a.count) (list-range (leb-false (length list) greatest_list l))))

  module _ (n : ℕ) (e : list_answer list ≡ done n) where
    pub accepted_short : length list ≤ greatest_list
    accepted_short =
        cases (leb (length list) greatest_list)
        (λ l. leb-true _ _ l)
        (λ l. let z : ◌≡◌ {A = ℕ} 7 0 = ap (λ (a : Coded). a.number) (list-range (leb-false _ _ l) ∙ e) in absurd (omega arith))

    pub accepted : Accepted list
    accepted = accepted_of (parse list) n (honest_list list) (list-parsed accepted_short ∙ e)

    pub accepted_trips : length (trips_of (parse list)) ≡ n
    accepted_trips = accepted_count (parse list) n accepted (list-parsed accepted_short ∙ e)
