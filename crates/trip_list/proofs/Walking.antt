-- A walk over a list, line after line: what the code's loops have shown so far, and what they give at the end.
use Rattle.std.proofs.Common.{◌≡◌, ℕ, zero, suc, ◌+◌, ◌<◌, ◌≤◌, Bool, true, cond, eqb, ltb, leb, ◌≢◌, List, Option, Some, None, [], ◌∷◌, ◌++◌, length, take, drop, sym, refl, ap, ◌∙◌, append_assoc, le_of_suc-le-suc, not-suc-le-zero, add-one, arith, length-append, length-drop, drop_of_length-le, drop-drop, take_at, le-ltb, lt-ltb, eq-eqb, ne_eqb, le-leb, leb-false, leb-true}
use mathlib.Core.Bool.{false≢true}
use lib.Seq.{drop-append-add}
use borrow.Author.Tests.{lt-leb}
use borrow.Table.Steps.{cases}
use Rattle.answer.specs.declared.Refusal.{Refusal}
use Rattle.answer.specs.declared.Refusal.TheVariants.{Range}
use Rattle.answer.specs.Coded.{Coded, done, coded_refusal, SHAPE, RANGE}
use Rattle.answer.specs.Admission.{first_refusal, if_done}
use Rattle.answer.proofs.Coded.{refusal-number}
use Rattle.memory.specs.Bytes.{part}
use Rattle.memory.proofs.Cases.{split_lt}
use Rattle.text.specs.Marks.{LF, comma}
use Rattle.trip_list.specs.declared.Trip as code
use Rattle.trip_list.specs.declared.Line as line
use Rattle.trip_list.specs.Trip.{Trip, spell_trip, spell, trip_of}
use Rattle.trip_list.specs.List.{Parsed, trips, refusal, before, parse_from, parse, trips_of, greatest_list, answer_of, list_answer, spelling, write_answer, written}
use Rattle.trip_list.specs.Lines.{has_line, first_trip, line_length, driver_start, line_start}
use Rattle.trip_list.specs.Lookup.{located, given, in_list, trip_or_none, read_trip, line_tests, next_answer, next_trip}
use Rattle.trip_list.specs.Scanner.{LineAt, Stopped, trip_at}
use Rattle.trip_list.proofs.Lines.{minute_of, metres_of, driver_of, texts, line-driver}
use Rattle.trip_list.proofs.Claims.{never_longer}
use Rattle.trip_list.proofs.Parsing.{Accepted, accepted, line_some, line-within, from_end, from_next, parsed-first, accepted_trips, list-parsed, list-range, list_count}
use Rattle.trip_list.proofs.Stepping.{line-inside}

-- ---- trips before those of the rest

abbrev pub before_all : List Trip → Parsed → Parsed
before_all [] p = p
before_all (t ∷ ts) p = before t (before_all ts p)

before-join : (ts : List Trip) (t : Trip) (p : Parsed) → before_all ts (before t p) ≡ before_all (ts ++ (t ∷ [])) p
before-join [] t p = refl
before-join (u ∷ us) t p = ap (before u) (before-join us t p)

before-none : (ts : List Trip) → before_all ts (trips []) ≡ trips ts
before-none [] = refl
before-none (u ∷ us) = ap (before u) (before-none us)

pub before-refused : (ts : List Trip) (a : Coded) → before_all ts (refusal a) ≡ refusal a
before-refused [] a = refl
before-refused (u ∷ us) a = ap (before u) (before-refused us a)

pub spell-join : (ts us : List Trip) → spell (ts ++ us) ≡ spell ts ++ spell us
spell-join [] us = refl
spell-join (t ∷ ts) us = rw (spell-join ts us) (sym (append_assoc (spell_trip t) (spell ts) (spell us)))

-- ---- where the lines start

start-next : (k : ℕ) (s : List ℕ) → line_start (suc k) s ≡ line_start k s + line_length (drop (line_start k s) s)
start-next zero s = omega arith
start-next (suc k) s =
    let rest = drop (line_length s) s in
    let i = line_start k rest in
    let q : line_length (drop i rest) ≡ line_length (drop (line_length s + i) s) = ap line_length (drop-drop i (line_length s) s) in
    omega (arith, start-next k rest, q)

-- ---- a line and those after it

pub line_before : (list : List ℕ) (at least : ℕ) → at < length list → (l : line.Line) → LineAt list at l → least ≤ l.minute
    → parse_from least (drop at list) ≡ before (first_trip (drop at list)) (parse_from (l.minute + 1) (drop (at + l.length) list))
line_before list at least inside l a rises =
    let s = drop at list in
    let m : l.minute ≡ (first_trip s).minute = a.read.minute in
    let some : 0 < length s = omega (arith, length-drop at list) in
    let up : least ≤ (first_trip s).minute = omega arith in
    let rest : drop (line_length s) s ≡ drop (at + l.length) list = drop-drop (line_length s) at list ∙ ap (λ (k : ℕ). drop (at + k) list) (sym a.read.size) in
    from_next least s some a.form up ∙ rw (rest, m)

-- ---- the lines before an index

-- `passed` are their trips, `count` in number
pub record Walked (list : List ℕ) (at least count : ℕ) : Type 0 where
  pub passed : List Trip
  pub so_far : parse list ≡ before_all passed (parse_from least (drop at list))
  pub counted : length passed ≡ count
  pub starts : line_start count list ≡ at
  pub within : at ≤ length list
  pub few : count ≤ at

pub walked_start : (list : List ℕ) → Walked list 0 0 0
unfolding parse
walked_start list = record { passed = []; so_far = refl; counted = refl; starts = refl; within = omega arith; few = omega arith }

module _ (list : List ℕ) (at least count : ℕ) (w : Walked list at least count) where
  module _ (inside : at < length list) (l : line.Line) (a : LineAt list at l) where
    abbrev s : List ℕ
    s = drop at list

    pub next-after : at < at + l.length
    next-after = omega (arith, line_some s, a.read.size)

    pub walked_next : least ≤ l.minute → Walked list (at + l.length) (l.minute + 1) (count + 1)
    walked_next rises =
        let n : line_length s ≡ l.length = sym a.read.size in
        let step = line_before list at least inside l a rises in
        record {
          passed = w.passed ++ (first_trip s ∷ []);
          so_far = w.so_far ∙ ap (before_all w.passed) step ∙ before-join w.passed (first_trip s) _;
          counted = omega (arith, length-append w.passed (first_trip s ∷ []), w.counted);
          starts = rw (add-one count) (omega (arith, start-next count list, w.starts, ap (λ (k : ℕ). line_length (drop k list)) w.starts, n));
          within = line-inside list at l a;
          few = omega (arith, w.few, next-after);
        }

  -- a line is refused
  pub walked-bad : (a : Coded) → Stopped least (drop at list) a → parse list ≡ refusal a
  walked-bad a b = w.so_far ∙ ap (before_all w.passed) b.parsed ∙ before-refused w.passed a

  -- the list is at its end
  module _ (over : length list ≤ at) where
    pub walked-trips : parse list ≡ trips w.passed
    walked-trips =
        let none : length (drop at list) ≤ 0 = omega (arith, length-drop at list) in
        w.so_far ∙ ap (before_all w.passed) (from_end least (drop at list) none) ∙ before-none w.passed

    pub walked-answer : answer_of (parse list) ≡ done count
    walked-answer = ap answer_of walked-trips ∙ ap done w.counted

-- ---- the trip at a place

-- held where its place is among the lines so far
abbrev pub Held : List ℕ → ℕ → ℕ → Option code.Trip → Type 0
Held list place count t = t ≡ cond (ltb place count) (Some (trip_at list (line_start place list))) None

pub held_start : (list : List ℕ) (place : ℕ) → Held list place 0 None
held_start list place = let h : 0 ≤ place = omega arith in rw (le-ltb place 0 h)

module _ (list : List ℕ) (place count at : ℕ) (starts : line_start count list ≡ at) where
  pub held_here : count ≡ place → Held list place (count + 1) (Some (trip_at list at))
  held_here e =
      let h : place < count + 1 = omega arith in
      rw (lt-ltb place (count + 1) h) (ap (λ (k : ℕ). Some (trip_at list k)) (sym starts ∙ ap (λ (k : ℕ). line_start k list) e))

  pub held_next : (t : Option code.Trip) → Held list place count t → count ≢ place → Held list place (count + 1) t
  held_next t h n = h ∙ ap (λ (b : Bool). cond b (Some (trip_at list (line_start place list))) None) same
    where
      same : ltb place count ≡ ltb place (count + 1)
      same = split_lt place count (λ l. let m : place < count + 1 = omega arith in rw (lt-ltb _ _ l, lt-ltb _ _ m)) (λ l. let m : count + 1 ≤ place = omega (arith, n) in rw (le-ltb _ _ l, le-ltb _ _ m))

-- the line of a place of an accepted list
pub place-line : (k least : ℕ) (s : List ℕ) (ts : List Trip) → parse_from least s ≡ trips ts → k < length ts
    → (has_line (drop (line_start k s) s) ≡ true) × (take 1 (drop k ts) ≡ first_trip (drop (line_start k s) s) ∷ [])
place-line k least s [] e h = absurd (not-suc-le-zero h)
place-line zero least s (t ∷ ts) e h = let f = parsed-first least s t ts e in (f.form, ap (λ (u : Trip). u ∷ []) (sym f.trip))
place-line (suc k) least s (t ∷ ts) e h =
    let f = parsed-first least s t ts e in
    let r = place-line k (t.minute + 1) (drop (line_length s) s) ts f.rest (le_of_suc-le-suc h) in
    rw (drop-drop (line_start k (drop (line_length s) s)) (line_length s) s) at r

-- the driver's bytes
pub driver-part : (s : List ℕ) → has_line s ≡ true → part s (driver_start s) (length (first_trip s).driver) ≡ (first_trip s).driver
unfolding first_trip trip_of
driver-part s form =
    let t = texts s form in
    let m = minute_of s in
    let k = metres_of s in
    let d = driver_of s in
    let r = drop (line_length s) s in
    let at : driver_start s ≡ length m + 1 + (length k + 1) = ap driver_start t.whole ∙ line-driver m k d r t.three in
    let one : drop (length m + 1) s ≡ k ++ (comma ∷ d ++ (LF ∷ r)) = ap (drop (length m + 1)) t.whole ∙ drop-append-add m _ 1 in
    let two : drop (driver_start s) s ≡ d ++ (LF ∷ r) =
    ap (λ (i : ℕ). drop i s) at ∙ sym (drop-drop (length k + 1) (length m + 1) s) ∙ ap (drop (length k + 1)) one ∙ drop-append-add k _ 1 in
    ap (take (length d)) two ∙ take_at d (LF ∷ r) (length d) refl

pub driver_at : (list : List ℕ) (at : ℕ) → has_line (drop at list) ≡ true
    → part list (at + driver_start (drop at list)) (length (first_trip (drop at list)).driver) ≡ (first_trip (drop at list)).driver
driver_at list at form =
    let s = drop at list in
    ap (take (length (first_trip s).driver)) (sym (drop-drop (driver_start s) at list)) ∙ driver-part s form

pub located_at : (list : List ℕ) (at : ℕ) → has_line (drop at list) ≡ true → in_list list (trip_at list at) ≡ located (first_trip (drop at list)) (at + driver_start (drop at list))
unfolding trip_at
located_at list at form = rw (driver_at list at form)

-- ---- what the reader gives

module _ (list : List ℕ) (place n : ℕ) (e : list_answer list ≡ done n) (acc : Accepted list) where
  read_found : place < n → given (done n) (in_list list (trip_at list (line_start place list)) ∷ []) ≡ read_trip list place
  unfolding read_trip parse
  read_found h =
      let c : length (trips_of (parse list)) ≡ n = accepted_trips list n e in
      let p = place-line place 0 list (trips_of (parse list)) acc (omega arith) in
      rw (e, p.1, located_at list (line_start place list) p.0)

  read_past : n ≤ place → given (done n) [] ≡ read_trip list place
  unfolding read_trip
  read_past h =
      let c : length (trips_of (parse list)) ≤ place = omega (arith, accepted_trips list n e) in
      rw (e, drop_of_length-le (trips_of (parse list)) c)

  read-held : (t : Option code.Trip) → Held list place n t → given (done n) (trip_or_none list t) ≡ read_trip list place
  read-held t h =
      split_lt place n
      (λ l. rw (h, lt-ltb place n l) (read_found l))
      (λ l. rw (h, le-ltb place n l) (read_past l))

read_refused : (list : List ℕ) (place : ℕ) (r : Refusal) → coded_refusal r ≡ list_answer list → given (coded_refusal r) [] ≡ read_trip list place
unfolding read_trip
read_refused list place r e = rw (← e, refusal-number r)

pub read-range : (list : List ℕ) (place : ℕ) → greatest_list < length list → given RANGE [] ≡ read_trip list place
read-range list place h = read_refused list place Range (list-range list h)

-- at the end of a pass over a list
module _ (list : List ℕ) (short : length list ≤ greatest_list) (at least count : ℕ) (w : Walked list at least count) (place : ℕ) where
  pub read-bad : (r : Refusal) → Stopped least (drop at list) (coded_refusal r) → given (coded_refusal r) [] ≡ read_trip list place
  read-bad r b = read_refused list place r (sym (ap answer_of (walked-bad list at least count w (coded_refusal r) b)) ∙ list-parsed list short)

  pub read-done : length list ≤ at → (t : Option code.Trip) → Held list place count t → given (done count) (trip_or_none list t) ≡ read_trip list place
  read-done over t h =
      let e : list_answer list ≡ done count = sym (list-parsed list short) ∙ walked-answer list at least count w over in
      read-held list place count e (accepted list count e) t h

-- ---- what the cursor gives

stopped_count : (least : ℕ) (s : List ℕ) (a : Coded) → Stopped least s a → a.count ≡ 0
stopped_count least s a b = ap (λ (c : Coded). c.count) (sym (b.told (done 0))) ∙ go
  where
    go : (first_refusal (line_tests least s) (done 0)).count ≡ 0
    go = cases (has_line s) (λ f. cases (leb least (first_trip s).minute) (λ l. rw (f, l)) (λ l. rw (f, l))) (λ f. rw f)

module _ (list : List ℕ) (at least : ℕ) where
  pub next-range : greatest_list < length list → given RANGE [] ≡ next_trip list at least
  unfolding next_trip next_answer
  next-range h = rw (lt-leb _ _ h)

  module _ (short : length list ≤ greatest_list) where
    pub next_end : length list ≤ at → given (done 0) [] ≡ next_trip list at least
    unfolding next_trip next_answer
    next_end h = rw (le-leb _ _ short, le-ltb _ _ h)

    module _ (inside : at < length list) where
      pub next-bad : (a : Coded) → Stopped least (drop at list) a → given a [] ≡ next_trip list at least
      unfolding next_trip next_answer
      next-bad a b = rw (le-leb _ _ short, lt-ltb _ _ inside, b.told (done (at + line_length (drop at list))), stopped_count least (drop at list) a b)

      pub next-found : (l : line.Line) → LineAt list at l → least ≤ l.minute → (t : code.Trip) → t ≡ trip_at list at
          → given (done (at + l.length)) (in_list list t ∷ []) ≡ next_trip list at least
      unfolding next_trip next_answer
      next-found l a rises t q =
          let s = drop at list in
          let up : least ≤ (first_trip s).minute = omega (arith, a.read.minute) in
          let some : 0 < at + line_length s = omega (arith, line_some s) in
          rw (le-leb _ _ short, lt-ltb _ _ inside, a.form, le-leb _ _ up, lt-ltb _ _ some, a.read.size, q, located_at list at a.form)

  -- the count is within the list
  pub next-count : (next_answer list at least).count ≤ greatest_list
  unfolding next_answer
  next-count =
      let s = drop at list in
      cases (leb (length list) greatest_list)
      (λ short. cases (ltb at (length list))
      (λ some. cases (has_line s)
      (λ f. cases (leb least (first_trip s).minute)
      (λ l. rw (short, some, f, l) (omega (arith, line-within s f, length-drop at list, line_some s, leb-true (length list) greatest_list short)))
      (λ l. rw (short, some, f, l) (omega arith)))
      (λ f. rw (short, some, f) (omega arith)))
      (λ none. rw (short, none) (omega arith)))
      (λ long. rw long (omega arith))

-- ---- what the writer gives

pub write-count : (list buffer : List ℕ) → (write_answer list buffer).count ≤ greatest_list
unfolding write_answer
write-count list buffer =
    cases (eqb (length buffer) greatest_list)
    (λ shape. cases (eqb (list_answer list).number 0)
    (λ d. cases (leb (length list) greatest_list)
    (λ short. rw (shape, d) (omega (arith, never_longer list, leb-true (length list) greatest_list short)))
    (λ long. absurd (range-refused (leb-false (length list) greatest_list long) d)))
    (λ d. rw (shape, d) (list_count list)))
    (λ shape. rw shape (omega arith))
  where
    range-refused : greatest_list < length list → eqb (list_answer list).number 0 ≡ true → ⊥
    range-refused h e = false≢true (ap (λ (a : Coded). eqb a.number 0) (list-range list h) ∙ e)

module _ (list buffer : List ℕ) where
  pub write_shape : length buffer ≢ greatest_list → (SHAPE ≡ write_answer list buffer) × (buffer ≡ written list buffer)
  unfolding write_answer written
  write_shape n = rw (ne_eqb _ _ n) (refl, refl)

  module _ (h : length buffer ≡ greatest_list) where
    pub write_answer_lem : (a : Coded) → a ≡ if_done (list_answer list) (done (length (spelling list))) (list_answer list) → a ≡ write_answer list buffer
    unfolding write_answer
    write_answer_lem a e = rw (eq-eqb _ _ h) e

    pub write-long : greatest_list < length list → (RANGE ≡ write_answer list buffer) × (buffer ≡ written list buffer)
    unfolding written
    write-long l =
        let a = write_answer_lem RANGE (rw (← list-range list l)) in
        (a, rw (← a))
