-- What the loop over two lists has joined so far.
use mathlib.Core.Path.{◌≡◌, refl, sym, ap, ◌∙◌}
use mathlib.Core.Bool.{Bool, true, ◌&&◌, false≢true}
use Rattle.std.specs.Option.{is_some}
use mathlib.Core.List.{List, [], ◌∷◌, ◌++◌, append_assoc, append-nil}
use Rattle.std.proofs.Common.{Option, Some, None, subst}
use Prim.Native.Nat.{ℕ, ◌+◌, ◌-◌, ◌*◌, ◌≤◌, ◌<◌, min}
use native.Mathlib.Omega.{arith}
use lib.ListN.{length, take, drop, length-append, length-drop}
use lib.Dec.{eqb}
use borrow.Author.Tests.{eq-eqb, ne_eqb}
use mathlib.Core.Logic.{◌≢◌}
use Rattle.answer.specs.declared.Refusal.{Refusal}
use Rattle.answer.specs.Coded.{Coded, coded_refusal}
use Rattle.memory.specs.Bytes.{part}
use Rattle.memory.proofs.Cases.{split_lt}
use Rattle.std.proofs.lemmas.Option.{none-some, same_Some}
use Rattle.scan.specs.Scan.{same_bytes}
use Rattle.std.specs.Cmp.Lexicographic.{pointwise}
use Rattle.scan.proofs.Scan.{and-true, and_assoc}
use Rattle.trip_list.specs.declared.Line as line
use Rattle.std.specs.Prelude.{Result, Ok, Err}
use Rattle.std.specs.Result.{result_ok}
use Rattle.trip_list.specs.Trip.{Trip, spell_trip, spell}
use Rattle.trip_list.specs.List.{Parsed, trips, refusal, before, parse, trips_of, Trips, trips_in, greatest_list, valid_from}
use Rattle.trip_list.specs.Lines.{first_trip}
use Rattle.trip_list.specs.Steps.{told, line_given}
use Rattle.trip_list.specs.Scanner.{greatest_line, LineAt}
use Rattle.trip_list.proofs.Parsing.{line_some, from_end, not_both}
use Rattle.trip_list.proofs.Claims.{parsed-valid}
use Rattle.trip_list.proofs.Stepping.{step_line, step-refused, line-inside, minute-fits}
use Rattle.trip_list.proofs.Walking.{spell-join, line_before, driver_at}
use Rattle.trip_join.specs.Join.{same_rest, agree, join, joined_trips, joined_text}
use Rattle.trip_join.proofs.Claims.{agree-none}
use Rattle.trip_join.proofs.Laws.{raised, join_first, join-second, join_both, agree-first, agree-second, agree_both}
use Rattle.trip_writer.specs.declared.Side as side
use Rattle.trip_writer.specs.declared.Stage as stage
use Rattle.trip_writer.specs.Spelling.{spelled_line}
use Rattle.trip_writer.specs.Joining.{no_minute, minute_of, from, Headed, SideAt, HeadAt, Joined, Joining, as_first, as_second, Placed, Advanced}
use Rattle.trip_writer.proofs.Pieces.{spelled-shorter}

-- ---- the next line

split_line : {A : Type 0} (h : Option line.Line) → ((l : line.Line) → h ≡ Some l → A) → (h ≡ None → A) → A
split_line (Some l) some none = some l refl
split_line None some none = none refl

split_result : {A : Type 0} (r : Result line.Line Refusal) → ((l : line.Line) → r ≡ Ok l → A) → ((x : Refusal) → r ≡ Err x → A) → A
split_result (Ok l) ok err = ok l refl
split_result (Err x) ok err = err x refl

module _ (list : List ℕ) (at least : ℕ) (r : Result line.Line Refusal) (e : told r ≡ line_given list at least) where
  headed-line : (l : line.Line) → r ≡ Ok l → Headed list at least (Some l)
  headed-line l q =
      let s = step_line list at least r e l q in
      let inside = line-inside list at l s.0 in
      let P : line.Line → Type 0 = λ k. LineAt list at k × (least ≤ k.minute) × (at < length list) in
      let here : P l = (s.0, s.1, omega (arith, inside, line_some (drop at list), s.0.read.size)) in
      record { line = λ k i. subst P (same_Some l k i) here; none = λ i. absurd (none-some l (sym i)) }

  headed-none : (x : Refusal) → r ≡ Err x → Headed list at least None
  headed-none x q = record {
    line = λ k i. absurd (none-some k i);
    none = λ _ inside t. not_both (from list at least) _ (coded_refusal x) t (step-refused list at least r e inside x q).parsed;
  }

  pub headed : (h : Option line.Line) → h ≡ result_ok r → Headed list at least h
  headed h q = split_result r (λ l i. rw (q, i) (headed-line l i)) (λ x i. rw (q, i) (headed-none x i))

module _ (list : List ℕ) (at least : ℕ) (h : Option line.Line) (d : Headed list at least h) where
  pub minute-small : minute_of h ≤ no_minute
  minute-small =
      split_line h
      (λ l i. omega (arith, ap minute_of i, minute-fits list at l (d.line l i).0))
      (λ i. omega (arith, ap minute_of i))

  pub minute_none : no_minute ≤ minute_of h → h ≡ None
  minute_none top =
      split_line h
      (λ l i. absurd (omega (arith, ap minute_of i, minute-fits list at l (d.line l i).0)))
      (λ i. i)

  pub minute_some : (l : line.Line) → h ≡ Some l → (minute_of h ≡ l.minute) × (l.minute < no_minute)
  minute_some l i = (ap minute_of i, omega (arith, minute-fits list at l (d.line l i).0))

-- ---- a trip before the rest

none-refused : {A : Type 0} (a : Coded) → Trips (refusal a) → A
none-refused a e = not_both (refusal a) [] a e refl

module _ (t : Trip) where
  before-trips : (p : Parsed) → Trips (before t p) → Trips p
  before-trips (trips us) e = refl
  before-trips (refusal a) e = none-refused a e

  trips-before : (p : Parsed) → Trips p → Trips (before t p)
  trips-before (trips us) e = refl
  trips-before (refusal a) e = none-refused a e

  before-first : (p : Parsed) → Trips p → trips_of (before t p) ≡ t ∷ trips_of p
  before-first (trips us) e = refl
  before-first (refusal a) e = none-refused a e

-- ---- an index that a walk comes to

pub head-start : (list : List ℕ) (s : side.Side) → SideAt list 0 0 s → HeadAt list s
unfolding parse
head-start list s d = record {
  bytes = d.bytes;
  least = 0;
  headed = d.headed;
  within = omega (arith, d.index);
  rest = λ t. rw d.index t;
  whole = λ t. rw d.index at t;
}

module _ (list : List ℕ) (p : side.Side) (w : HeadAt list p) where
  -- its trip
  abbrev here : Trip
  here = first_trip (drop p.at list)

  pub minute_within : minute_of p.line ≤ no_minute
  minute_within = minute-small list p.at w.least p.line w.headed

  module _ (l : line.Line) (is : p.line ≡ Some l) where
    pub line_here : LineAt list p.at l
    line_here = (w.headed.line l is).0

    pub minute_here : (minute_of p.line ≡ l.minute) × (l.minute < no_minute)
    minute_here = minute_some list p.at w.least p.line w.headed l is

    -- the side after it
    module _ (q : side.Side) (d : SideAt list (p.at + l.length) (l.minute + 1) q) where
      abbrev after : Parsed
      after = from list q.at (l.minute + 1)

      step : from list p.at w.least ≡ before here after
      step = let e = w.headed.line l is in rw d.index (line_before list p.at w.least e.2 l e.0 e.1)

      pub next-within : q.at ≤ length list
      next-within = omega (arith, d.index, line-inside list p.at l line_here)

      pub next_on : p.at < q.at
      next_on = omega (arith, d.index, line_some (drop p.at list), line_here.read.size)

      accepted_after : Trips (parse list) → Trips after
      accepted_after t = before-trips here after (rw step at (w.rest t))

      head-next : HeadAt list q
      head-next = record {
        bytes = d.bytes;
        least = l.minute + 1;
        headed = d.headed;
        within = next-within;
        rest = accepted_after;
        whole = λ t. w.whole (rw step (trips-before here after t));
      }

      -- the trips from here on
      module _ (t : Trips (parse list)) where
        rest-first : trips_of (from list p.at w.least) ≡ here ∷ trips_of after
        rest-first = ap trips_of step ∙ before-first here after (accepted_after t)

        rest-later : valid_from (here.minute + 1) (trips_of after) ≡ true
        rest-later = rw (← line_here.read.minute) (parsed-valid (l.minute + 1) _ _ (accepted_after t))

  rest-none : p.line ≡ None → Trips (parse list) → trips_of (from list p.at w.least) ≡ []
  rest-none none t =
      split_lt p.at (length list)
      (λ inside. absurd (w.headed.none none inside (w.rest t)))
      (λ over. ap trips_of (from_end w.least (drop p.at list) (omega (arith, length-drop p.at list))))

  rest-valid : Trips (parse list) → (n : ℕ) → n ≤ minute_of p.line → valid_from n (trips_of (from list p.at w.least)) ≡ true
  rest-valid t n le =
      split_line p.line
      (λ l is.
      let e = w.headed.line l is in
      let q : n ≤ here.minute = omega (arith, (minute_here l is).0, (line_here l is).read.minute) in
      let step : from list p.at w.least ≡ before here (from list (p.at + l.length) (l.minute + 1)) = line_before list p.at w.least e.2 l e.0 e.1 in
      let after = from list (p.at + l.length) (l.minute + 1) in
      let first : trips_of (from list p.at w.least) ≡ here ∷ trips_of after = ap trips_of step ∙ before-first here after (before-trips here after (rw step at (w.rest t))) in
      let v : valid_from w.least (here ∷ trips_of after) ≡ true = ap (λ (l : List Trip). valid_from w.least l) (sym first) ∙ parsed-valid w.least _ _ (w.rest t) in
      rw first (raised w.least n here (trips_of after) q v))
      (λ none. rw (rest-none none t))

-- ---- two lines of one minute

-- the driver's bytes lie in the list
pub driver-bytes : (list : List ℕ) (at : ℕ) (l : line.Line) → LineAt list at l → (n : ℕ) → n ≡ l.letters → part list (at + l.driver) n ≡ (first_trip (drop at list)).driver
driver-bytes list at l a n q =
    let s = drop at list in
    ap (λ (k : ℕ). part list (at + l.driver) k) (q ∙ a.read.letters)
    ∙ ap (λ (k : ℕ). part list (at + k) (length (first_trip s).driver)) a.read.driver
    ∙ driver_at list at a.form

pointwise-same : (xs ys : List ℕ) → pointwise eqb xs ys ≡ same_bytes xs ys
pointwise-same [] [] = refl
pointwise-same [] (y ∷ ys) = refl
pointwise-same (x ∷ xs) [] = refl
pointwise-same (x ∷ xs) (y ∷ ys) = ap (λ (b : Bool). eqb x y && b) (pointwise-same xs ys)

module _ (x : List ℕ) (i : ℕ) (a : line.Line) (p : LineAt x i a) (y : List ℕ) (j : ℕ) (b : line.Line) (q : LineAt y j b) where
  pub metres-differ : a.metres ≢ b.metres → eqb a.metres b.metres ≡ same_rest (first_trip (drop i x)) (first_trip (drop j y))
  unfolding same_rest
  metres-differ n =
      let m : (first_trip (drop i x)).metres ≢ (first_trip (drop j y)).metres = λ e. n (p.read.metres ∙ e ∙ sym q.read.metres) in
      rw (ne_eqb _ _ n, ne_eqb _ _ m)

  pub metres_same : a.metres ≡ b.metres → (d e : List ℕ) → d ≡ (first_trip (drop i x)).driver → e ≡ (first_trip (drop j y)).driver → (r : Bool) → r ≡ pointwise eqb d e
      → r ≡ same_rest (first_trip (drop i x)) (first_trip (drop j y))
  unfolding same_rest
  metres_same m d e ed ee r er =
      let f : (first_trip (drop i x)).metres ≡ (first_trip (drop j y)).metres = sym p.read.metres ∙ m ∙ q.read.metres in
      er ∙ rw (ed, ee, eq-eqb _ _ f) (pointwise-same (first_trip (drop i x)).driver (first_trip (drop j y)).driver)

-- ---- one trip more

joined_on : (x y xs ys : List ℕ) (s r : stage.Stage) (ts us vs ws : List Trip) (t : Trip) → Joined x y xs s ts us → join ts us ≡ t ∷ join vs ws
    → s.agree && agree ts us ≡ r.agree && agree vs ws → r.end ≡ s.end + length (spell_trip t)
    → (r.end ≤ greatest_list → take r.end ys ≡ take s.end xs ++ spell_trip t) → Joined x y ys r vs ws
joined_on x y xs ys s r ts us vs ws t p ej ea en el =
    let on : spell (p.passed ++ (t ∷ [])) ≡ spell p.passed ++ spell_trip t =
    spell-join p.passed (t ∷ []) ∙ ap (λ (l : List ℕ). spell p.passed ++ l) (append-nil (spell_trip t)) in
    record {
      passed = p.passed ++ (t ∷ []);
      joins = p.joins ∙ ap (λ (l : List Trip). p.passed ++ l) ej ∙ sym (append_assoc p.passed (t ∷ []) (join vs ws));
      agrees = p.agrees ∙ ea;
      ends = en ∙ rw p.ends (sym (ap length on ∙ length-append (spell p.passed) (spell_trip t)));
      laid = λ f. el f ∙ rw (p.laid (omega arith)) (sym on);
    }

-- a line that ends within the longest list was laid down where the list ended
pub within-laid : (xs ys piece : List ℕ) (end place r : ℕ) → place ≡ min end greatest_list → r ≡ place + length piece → take r ys ≡ take place xs ++ piece
    → end + (r - place) ≤ greatest_list → take (end + (r - place)) ys ≡ take end xs ++ piece
within-laid xs ys piece end place r ep er el h =
    let q : place ≡ end = omega arith in
    let e : end + (r - place) ≡ r = omega arith in
    ap (λ (i : ℕ). take i ys) e ∙ el ∙ ap (λ (i : ℕ). take i xs ++ piece) q

-- at the start
pub joining_start : (x y xs : List ℕ) (a b : side.Side) → SideAt x 0 0 a → SideAt y 0 0 b → length x ≤ greatest_list → length y ≤ greatest_list
    → greatest_list + 2 * greatest_line ≤ length xs → Joining x y xs (record { first = a; second = b; end = 0; agree = true })
unfolding head-start parse
joining_start x y xs a b da db hx hy hs = record {
  first = head-start x a da;
  second = head-start y b db;
  shorter = omega arith;
  lengths = (hx, hy, hs);
  joined = λ tx ty. rw (da.index, db.index) (record { passed = []; joins = refl; agrees = refl; ends = refl; laid = λ _. refl });
}

module _ (x y xs : List ℕ) (s : stage.Stage) (w : Joining x y xs s) (ys : List ℕ) (same : length ys ≡ length xs) (end : ℕ) (l : line.Line) (n : side.Side) where
  abbrev t : Trip
  t = first_trip (drop s.first.at x)

  abbrev u : Trip
  u = first_trip (drop s.second.at y)

  -- the first list's line comes next
  pub first_next : s.first.line ≡ Some l → l.minute < minute_of s.second.line → end ≡ s.end + length (spelled_line x s.first.at)
      → (end ≤ greatest_list → take end ys ≡ take s.end xs ++ spelled_line x s.first.at) → SideAt x (s.first.at + l.length) (l.minute + 1) n
      → Joining x y ys (record { first = n; second = s.second; end = end; agree = s.agree })
  unfolding head-next spelled_line
  first_next is less en el d =
      let h = line_here x s.first w.first l is in
      record {
        first = head-next x s.first w.first l is n d;
        second = w.second;
        shorter = omega (arith, spelled-shorter x s.first.at l h, w.shorter, d.index);
        lengths = (w.lengths.0, w.lengths.1, omega (arith, w.lengths.2));
        joined = λ tx ty.
            let vs = trips_of (from x n.at (l.minute + 1)) in
            let us = trips_of (from y s.second.at w.second.least) in
            let f = rest-first x s.first w.first l is n d tx in
            let v = rest-later x s.first w.first l is n d tx in
            let o = rest-valid y s.second w.second ty (t.minute + 1) (omega (arith, h.read.minute)) in
            joined_on x y xs ys s _ _ us vs us t (w.joined tx ty) (rw f (join_first t vs us v o)) (rw f (ap (λ (b : Bool). s.agree && b) (agree-first t vs us o))) en el;
      }

  -- the second list's
  pub second-next : s.second.line ≡ Some l → l.minute < minute_of s.first.line → end ≡ s.end + length (spelled_line y s.second.at)
      → (end ≤ greatest_list → take end ys ≡ take s.end xs ++ spelled_line y s.second.at) → SideAt y (s.second.at + l.length) (l.minute + 1) n
      → Joining x y ys (record { first = s.first; second = n; end = end; agree = s.agree })
  unfolding head-next spelled_line
  second-next is less en el d =
      let h = line_here y s.second w.second l is in
      record {
        first = w.first;
        second = head-next y s.second w.second l is n d;
        shorter = omega (arith, spelled-shorter y s.second.at l h, w.shorter, d.index);
        lengths = (w.lengths.0, w.lengths.1, omega (arith, w.lengths.2));
        joined = λ tx ty.
            let ts = trips_of (from x s.first.at w.first.least) in
            let ws = trips_of (from y n.at (l.minute + 1)) in
            let f = rest-first y s.second w.second l is n d ty in
            let o = rest-valid x s.first w.first tx (u.minute + 1) (omega (arith, h.read.minute)) in
            joined_on x y xs ys s _ ts _ ts ws u (w.joined tx ty) (rw f (join-second u ts ws o)) (rw f (ap (λ (b : Bool). s.agree && b) (agree-second u ts ws o))) en el;
      }

-- two lines of one minute: the second list's is left out
pub skip_next : (x y xs : List ℕ) (s : stage.Stage) → Joining x y xs s → (a b : line.Line) → s.first.line ≡ Some a → s.second.line ≡ Some b → a.minute ≡ b.minute
    → (n : side.Side) → SideAt y (s.second.at + b.length) (b.minute + 1) n → (g : Bool) → g ≡ s.agree && same_rest (first_trip (drop s.first.at x)) (first_trip (drop s.second.at y))
    → Joining x y xs (record { first = s.first; second = n; end = s.end; agree = g }) × (s.second.at < n.at)
unfolding head-next
skip_next x y xs s w a b isa isb eq n d g eg =
    let t = first_trip (drop s.first.at x) in
    let u = first_trip (drop s.second.at y) in
    let l = line_here x s.first w.first a isa in
    let k = line_here y s.second w.second b isb in
    let ea = w.first.headed.line a isa in
    let on = next_on y s.second w.second b isb n d in (
      record {
        first = w.first;
        second = head-next y s.second w.second b isb n d;
        shorter = omega (arith, w.shorter, on);
        lengths = w.lengths;
        joined = λ tx ty.
            let after = from x (s.first.at + a.length) (a.minute + 1) in
            let vs = trips_of after in
            let ws = trips_of (from y n.at (b.minute + 1)) in
            let p = w.joined tx ty in
            let step : from x s.first.at w.first.least ≡ before t after = line_before x s.first.at w.first.least ea.2 a ea.0 ea.1 in
            let tv : Trips after = before-trips t after (rw step at (w.first.rest tx)) in
            let f : trips_of (from x s.first.at w.first.least) ≡ t ∷ vs = ap trips_of step ∙ before-first t after tv in
            let h = rest-first y s.second w.second b isb n d ty in
            let q : t.minute ≡ u.minute = omega (arith, l.read.minute, k.read.minute) in
            let v : valid_from (t.minute + 1) vs ≡ true = rw (← l.read.minute) (parsed-valid (a.minute + 1) _ _ tv) in
            let o : valid_from (t.minute + 1) ws ≡ true = rw q (rest-later y s.second w.second b isb n d ty) in
            record {
              passed = p.passed;
              joins = p.joins ∙ ap (λ (l : List Trip). p.passed ++ l) (rw (f, h) (join_both t u vs ws q v ∙ sym (join_first t vs ws v o)));
              agrees = p.agrees ∙ rw (f, h, agree_both t u vs ws q v o, agree-first t vs ws o, eg) (and_assoc s.agree (same_rest t u) (agree vs ws));
              ends = p.ends;
              laid = p.laid;
            };
      },
      on,
    )

-- ---- lines of one list

module _ (list : List ℕ) (limit : ℕ) (xs ys zs : List ℕ) (p q : side.Side) (start place : ℕ) (w : Placed list ys q place) (s : Advanced list limit xs p start ys q place)
    (l : line.Line) (is : q.line ≡ Some l) (less : l.minute < limit) (same : length zs ≡ length ys) (end : ℕ) (spelled : end ≡ place + length (spelled_line q.list.now q.at))
    (laid : end ≤ greatest_list → take end zs ≡ take place ys ++ spelled_line q.list.now q.at) (n : side.Side) (next : SideAt q.list.now (q.at + l.length) (l.minute + 1) n) where
  d : SideAt list (q.at + l.length) (l.minute + 1) n
  d = rw w.head.bytes at next

  en : end ≡ place + length (spelled_line list q.at)
  en = rw w.head.bytes at spelled

  el : end ≤ greatest_list → take end zs ≡ take place ys ++ spelled_line list q.at
  el = rw w.head.bytes at laid

  pub placed_next : Placed list zs n end
  placed_next = record {
    head = head-next list q w.head l is n d;
    short = w.short;
    fits = omega (arith, w.fits, en, spelled-shorter list q.at l (line_here list q w.head l is), d.index);
    room = omega (arith, w.room);
  }

  pub advanced_next : Advanced list limit xs p start zs n end
  advanced_next =
      let on = next_on list q w.head l is n d in
      record {
        first = λ y o g h v. first_next list y ys (as_first q place o g) (s.first y o g h v) zs same end l n is (omega arith) en el d;
        second = λ x o g h v. second-next x list ys (as_second q place o g) (s.second x o g h v) zs same end l n is (omega arith) en el d;
        forward = omega (arith, s.forward, on);
        on = λ l h. omega (arith, s.forward, on);
        same = same ∙ s.same;
      }

-- the next side is further on, and within the list
module _ (list xs : List ℕ) (q : side.Side) (end : ℕ) (w : Placed list xs q end) (l : line.Line) (is : q.line ≡ Some l) where
  pub place_on : (n : side.Side) → SideAt q.list.now (q.at + l.length) (l.minute + 1) n → (q.at < n.at) × (n.at ≤ length list)
  place_on n next =
      let d : SideAt list (q.at + l.length) (l.minute + 1) n = rw w.head.bytes at next in
      (next_on list q w.head l is n d, next-within list q w.head l is n d)

-- ---- what the code asks for

module _ (x y xs : List ℕ) (s : stage.Stage) (w : Joining x y xs s) where
  pub first_placed : Placed x xs s.first s.end
  first_placed = record { head = w.first; short = w.lengths.0; fits = omega (arith, w.shorter, w.second.within, w.lengths); room = w.lengths.2 }

  pub second_placed : Placed y xs s.second s.end
  second_placed = record { head = w.second; short = w.lengths.1; fits = omega (arith, w.shorter, w.first.within, w.lengths); room = w.lengths.2 }

  -- of the sides' own lists
  pub joining_own : Joining s.first.list.now s.second.list.now xs s
  joining_own =
      let P : List ℕ → Type 0 = λ u. Joining u y xs s in
      let Q : List ℕ → Type 0 = λ v. Joining s.first.list.now v xs s in
      subst Q (sym w.second.bytes) (subst P (sym w.first.bytes) w)

  pub first_some : is_some s.first.line ≡ true → min (minute_of s.first.line) (minute_of s.second.line) < no_minute
  first_some e = split_line s.first.line (λ l i. omega (arith, minute_here x s.first w.first l i)) (λ i. absurd (false≢true (ap is_some (sym i) ∙ e)))

  pub second_some : is_some s.second.line ≡ true → min (minute_of s.first.line) (minute_of s.second.line) < no_minute
  second_some e = split_line s.second.line (λ l i. omega (arith, minute_here y s.second w.second l i)) (λ i. absurd (false≢true (ap is_some (sym i) ∙ e)))

-- ---- both lists are at their ends

-- a walk that ended before the end of the list met a refusal
pub walk_refused : (list : List ℕ) (p : side.Side) → HeadAt list p → no_minute ≤ minute_of p.line → p.at < length list → Trips (parse list) → ⊥
walk_refused list p w none inside t = w.headed.none (minute_none list p.at w.least p.line w.headed none) inside (w.rest t)

walk-whole : (list : List ℕ) (p : side.Side) → HeadAt list p → length list ≤ p.at → Trips (parse list)
walk-whole list p w over = w.whole (rw (from_end w.least (drop p.at list) (omega (arith, length-drop p.at list))))

-- both lists are accepted; the join is spelled, where it fits
pub record Ended (x y xs : List ℕ) (s : stage.Stage) : Type 0 where
  pub first : Trips (parse x)
  pub second : Trips (parse y)
  pub agrees : agree (trips_in x) (trips_in y) ≡ s.agree
  pub ends : s.end ≡ length (joined_text x y)
  pub laid : s.end ≤ greatest_list → take s.end xs ≡ joined_text x y

pub ended : (x y xs : List ℕ) (s : stage.Stage) → Joining x y xs s → no_minute ≤ min (minute_of s.first.line) (minute_of s.second.line) → length x ≤ s.first.at → length y ≤ s.second.at → Ended x y xs s
ended x y xs s w none ox oy =
    let tx = walk-whole x s.first w.first ox in
    let ty = walk-whole y s.second w.second oy in
    let p = w.joined tx ty in
    let nx = rest-none x s.first w.first (minute_none x _ _ _ w.first.headed (omega arith)) tx in
    let ny = rest-none y s.second w.second (minute_none y _ _ _ w.second.headed (omega arith)) ty in
    let all : joined_trips x y ≡ p.passed = p.joins ∙ rw (nx, ny) (append-nil p.passed) in
    record {
      first = tx;
      second = ty;
      agrees = p.agrees ∙ rw (nx, ny, agree-none []) (and-true s.agree);
      ends = p.ends ∙ ap (λ (ts : List Trip). length (spell ts)) (sym all);
      laid = λ f. p.laid f ∙ ap spell (sym all);
    }
