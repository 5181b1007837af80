-- What holds of the call: its answer, the buffer, and the trips of what it writes.
use mathlib.Core.Path.{◌≡◌, refl, sym, ap, ◌∙◌}
use mathlib.Core.Logic.{◌≢◌, ◌⊎◌, ⊎_elim}
use mathlib.Core.Bool.{true}
use mathlib.Core.List.{List, [], ◌++◌, Memᴰ}
use Prim.Native.Nat.{ℕ, ◌+◌, ◌≤◌, ◌<◌}
use native.Mathlib.Omega.{arith}
use lib.Dec.{eqb}
use lib.ListN.{length, get_or, take, drop}
use lib.Seq.{take_at, drop_at}
use borrow.Author.Tests.{eq-eqb, ne_eqb, le-leb, lt-leb}
use borrow.Table.Steps.{cases}
use Rattle.answer.specs.Coded.{Coded, done, SHAPE, RANGE, TRIP_FORM, TRIP_ORDER, TRIP_CONFLICT, TRIPS_TOO_LONG}
use Rattle.answer.proofs.Coded.{number-done}
use Rattle.memory.specs.Bytes.{overwrite}
use Rattle.memory.proofs.Bytes.{length-overwrite, overwrite-cut}
use Rattle.memory.proofs.Cases.{split_eq, split_lt}
use Rattle.scan.proofs.Scan.{true-not-false}
use Rattle.trip_list.specs.Trip.{Trip, spell}
use Rattle.trip_list.specs.List.{Parsed, trips, parse, parse_from, trips_of, trips_in, answer_of, greatest_list, list_answer, spelling, write_answer, written}
use Rattle.trip_list.proofs.Parsing.{list_count, accepted_short}
use Rattle.trip_list.proofs.CallClaims as lists
use Rattle.trip_list.proofs.Claims.{parse-spell, spell_accepted, trips-valid, minutes_rise, never_longer, parsed_again, accepted_again}
use Rattle.trip_join.specs.Join.{agree, joined_trips, joined_text, join_answer, joined}
use Rattle.trip_join.proofs.Claims.{Conflict, disagree, conflict_disagree, agree_commutes, agree_self, agree-none, none-agree, valid_once, IsJoin, is_join, only_join, join_commutes, join_self, join-none}

-- ---- the answer: six cases, in this order

-- a buffer of 4,096 bytes, and two lists that are accepted
pub record Ready (x y buffer : List ℕ) : Type 0 where
  pub room : length buffer ≡ 4096
  pub first : (list_answer x).number ≡ 0
  pub second : (list_answer y).number ≡ 0

abbrev pub NoConflict : List ℕ → List ℕ → Type 0
NoConflict x y = Conflict (trips_in x) (trips_in y) → ⊥

module _ (x y : List ℕ) where
  agree_of : NoConflict x y → agree (trips_in x) (trips_in y) ≡ true
  agree_of h = cases (agree (trips_in x) (trips_in y)) (λ e. e) (λ e. absurd (h (disagree (trips_in x) (trips_in y) e)))

  pub free_of : agree (trips_in x) (trips_in y) ≡ true → NoConflict x y
  free_of e c = true-not-false (agree (trips_in x) (trips_in y)) e (conflict_disagree (trips_in x) (trips_in y) c)

module _ (x y buffer : List ℕ) where
  -- a buffer of another length is refused with SHAPE, whatever the lists
  pub shape-refused : length buffer ≢ 4096 → join_answer x y buffer ≡ SHAPE
  unfolding join_answer
  shape-refused h = rw (ne_eqb _ _ h)

  -- then the first list's refusal, whatever the second is
  pub first-refused : length buffer ≡ 4096 → (list_answer x).number ≢ 0 → join_answer x y buffer ≡ list_answer x
  unfolding join_answer
  first-refused h r = rw (eq-eqb _ _ h, ne_eqb _ _ r)

  -- then the second list's
  pub second-refused : length buffer ≡ 4096 → (list_answer x).number ≡ 0 → (list_answer y).number ≢ 0 → join_answer x y buffer ≡ list_answer y
  unfolding join_answer
  second-refused h e r = rw (eq-eqb _ _ h, eq-eqb _ _ e, ne_eqb _ _ r)

  module _ (r : Ready x y buffer) where
    -- a conflict is refused with 17, whatever the length
    pub conflict-refused : Conflict (trips_in x) (trips_in y) → join_answer x y buffer ≡ TRIP_CONFLICT
    unfolding join_answer
    conflict-refused c = rw (eq-eqb _ _ r.room, eq-eqb _ _ r.first, eq-eqb _ _ r.second, conflict_disagree (trips_in x) (trips_in y) c)

    module _ (free : NoConflict x y) where
      -- then a text of more than 4,096 bytes with 18
      pub long-refused : 4096 < length (joined_text x y) → join_answer x y buffer ≡ TRIPS_TOO_LONG
      unfolding join_answer
      long-refused h = rw (eq-eqb _ _ r.room, eq-eqb _ _ r.first, eq-eqb _ _ r.second, agree_of x y free, lt-leb _ _ h)

      -- any other is done, and counts the bytes of the text
      pub join-done : length (joined_text x y) ≤ 4096 → join_answer x y buffer ≡ done (length (joined_text x y))
      unfolding join_answer
      join-done h = rw (eq-eqb _ _ r.room, eq-eqb _ _ r.first, eq-eqb _ _ r.second, agree_of x y free, le-leb _ _ h)

-- which of these a call is
pub data Case (x y buffer : List ℕ) : Type 0 where
  shape : length buffer ≢ 4096 → Case x y buffer
  first : length buffer ≡ 4096 → (list_answer x).number ≢ 0 → Case x y buffer
  second : length buffer ≡ 4096 → (list_answer x).number ≡ 0 → (list_answer y).number ≢ 0 → Case x y buffer
  conflict : Ready x y buffer → Conflict (trips_in x) (trips_in y) → Case x y buffer
  long : Ready x y buffer → NoConflict x y → 4096 < length (joined_text x y) → Case x y buffer
  fits : Ready x y buffer → NoConflict x y → length (joined_text x y) ≤ 4096 → Case x y buffer

-- every call is one of them
pub every-join : (x y buffer : List ℕ) → Case x y buffer
every-join x y buffer =
    split_eq (length buffer) 4096
    (λ h. split_eq (list_answer x).number 0
    (λ a. split_eq (list_answer y).number 0
    (λ b.
    let r : Ready x y buffer = record { room = h; first = a; second = b } in
    cases (agree (trips_in x) (trips_in y))
    (λ e. split_lt 4096 (length (joined_text x y)) (λ l. long r (free_of x y e) l) (λ l. fits r (free_of x y e) l))
    (λ e. conflict r (disagree (trips_in x) (trips_in y) e)))
    (λ b. second h a b))
    (λ a. first h a))
    (λ h. shape h)

module _ (x y buffer : List ℕ) where
  abbrev case_answer : Case x y buffer → Coded
  case_answer (shape h) = SHAPE
  case_answer (first h a) = list_answer x
  case_answer (second h a b) = list_answer y
  case_answer (conflict r c) = TRIP_CONFLICT
  case_answer (long r free h) = TRIPS_TOO_LONG
  case_answer (fits r free h) = done (length (joined_text x y))

  case_told : (c : Case x y buffer) → join_answer x y buffer ≡ case_answer c
  case_told (shape h) = shape-refused x y buffer h
  case_told (first h a) = first-refused x y buffer h a
  case_told (second h a b) = second-refused x y buffer h a b
  case_told (conflict r c) = conflict-refused x y buffer r c
  case_told (long r free h) = long-refused x y buffer r free h
  case_told (fits r free h) = join-done x y buffer r free h

  -- what the number of an answer shows of every case shows it of the call
  by_number : {A : Type 0} (b : Coded) → join_answer x y buffer ≡ b → ((c : Case x y buffer) → case_answer c ≡ b → A) → A
  by_number b e f = let c = every-join x y buffer in f c (sym (case_told c) ∙ e)

  -- the count is at most 4,096
  pub join-count : (join_answer x y buffer).count ≤ 4096
  join-count = let c = every-join x y buffer in rw (case_told c) (go c)
    where
      go : (c : Case x y buffer) → (case_answer c).count ≤ 4096
      go (shape h) = omega arith
      go (first h a) = list_count x
      go (second h a b) = list_count y
      go (conflict r c) = omega arith
      go (long r free h) = omega arith
      go (fits r free h) = h

-- ---- what an answer shows

number : (a b : Coded) → a ≡ b → a.number ≡ b.number
number a b q = ap (λ (c : Coded). c.number) q

list-number : (list : List ℕ) → (list_answer list).number ≤ 11
list-number list =
    split_lt 4096 (length list)
    (λ h. at RANGE (lists.long-refused list h) (omega arith))
    (λ h. ⊎_elim
    (λ a. at (done (length (trips_in list))) (lists.short-parsed list h ∙ ap answer_of a) (omega arith))
    (λ bad. ⊎_elim (λ b. at TRIP_FORM (lists.form-answer list h b) (omega arith)) (λ b. at TRIP_ORDER (lists.order-answer list h b) (omega arith)) bad)
    (lists.every-list list))
  where
    at : (a : Coded) → list_answer list ≡ a → a.number ≤ 11 → (list_answer list).number ≤ 11
    at a q h = omega (arith, h, number (list_answer list) a q)

-- done is given in the last case only
pub record DoneJoin (x y buffer : List ℕ) (n : ℕ) : Type 0 where
  pub ready : Ready x y buffer
  pub free : NoConflict x y
  pub count : n ≡ length (joined_text x y)
  pub short : n ≤ 4096

module _ (x y buffer : List ℕ) where
  pub done_only : (n : ℕ) → join_answer x y buffer ≡ done n → DoneJoin x y buffer n
  done_only n e = by_number x y buffer (done n) e go
    where
      go : (c : Case x y buffer) → case_answer x y buffer c ≡ done n → DoneJoin x y buffer n
      go (shape h) q = absurd (omega (arith, number _ _ q))
      go (first h a) q = absurd (a (number _ _ q))
      go (second h a b) q = absurd (b (number _ _ q))
      go (conflict r c) q = absurd (omega (arith, number _ _ q))
      go (long r free h) q = absurd (omega (arith, number _ _ q))
      go (fits r free h) q =
          let z : n ≡ length (joined_text x y) = ap (λ (c : Coded). c.count) (sym q) in
          record { ready = r; free = free; count = z; short = omega arith }

  -- 17 is given for a conflict of accepted lists only
  pub conflict_only : join_answer x y buffer ≡ TRIP_CONFLICT → Ready x y buffer × Conflict (trips_in x) (trips_in y)
  conflict_only e = by_number x y buffer TRIP_CONFLICT e go
    where
      go : (c : Case x y buffer) → case_answer x y buffer c ≡ TRIP_CONFLICT → Ready x y buffer × Conflict (trips_in x) (trips_in y)
      go (shape h) q = absurd (omega (arith, number _ _ q))
      go (first h a) q = absurd (omega (arith, list-number x, number _ _ q))
      go (second h a b) q = absurd (omega (arith, list-number y, number _ _ q))
      go (conflict r c) q = (r, c)
      go (long r free h) q = absurd (omega (arith, number _ _ q))
      go (fits r free h) q = absurd (omega (arith, number _ _ q))

  -- 18 is given for a text of more than 4,096 bytes, of accepted lists without a conflict, only
  pub long_only : join_answer x y buffer ≡ TRIPS_TOO_LONG → Ready x y buffer × NoConflict x y × (4096 < length (joined_text x y))
  long_only e = by_number x y buffer TRIPS_TOO_LONG e go
    where
      go : (c : Case x y buffer) → case_answer x y buffer c ≡ TRIPS_TOO_LONG → Ready x y buffer × NoConflict x y × (4096 < length (joined_text x y))
      go (shape h) q = absurd (omega (arith, number _ _ q))
      go (first h a) q = absurd (omega (arith, list-number x, number _ _ q))
      go (second h a b) q = absurd (omega (arith, list-number y, number _ _ q))
      go (conflict r c) q = absurd (omega (arith, number _ _ q))
      go (long r free h) q = (r, free, h)
      go (fits r free h) q = absurd (omega (arith, number _ _ q))

-- ---- the buffer

-- refused, it is as it came
pub refused_keeps : (x y buffer : List ℕ) → (join_answer x y buffer).number ≢ 0 → joined x y buffer ≡ buffer
unfolding joined
refused_keeps x y buffer h = rw (ne_eqb _ _ h)

-- its length never changes
pub joined_length : (x y buffer : List ℕ) → length (joined x y buffer) ≡ length buffer
unfolding joined
joined_length x y buffer =
    cases (eqb (join_answer x y buffer).number 0)
    (λ e. rw e (length-overwrite buffer 0 (joined_text x y)))
    (λ e. rw e)

module _ (x y buffer : List ℕ) (n : ℕ) (e : join_answer x y buffer ≡ done n) where
  shown : DoneJoin x y buffer n
  shown = done_only x y buffer n e

  -- done, the text is laid over its front
  pub done-written : joined x y buffer ≡ overwrite buffer 0 (joined_text x y)
  unfolding joined
  done-written = rw e

  joined-cut : joined x y buffer ≡ joined_text x y ++ drop (0 + length (joined_text x y)) buffer
  joined-cut =
      let d = shown in
      let room : 0 + length (joined_text x y) ≤ length buffer = omega (arith, d.count, d.short, d.ready.room) in
      done-written ∙ overwrite-cut buffer 0 (joined_text x y) room

  -- so many bytes in front are the text
  pub done-front : take n (joined x y buffer) ≡ joined_text x y
  done-front = ap (take n) joined-cut ∙ take_at (joined_text x y) _ n (sym shown.count)

  -- and those after them are as they came
  pub done-rest : drop n (joined x y buffer) ≡ drop n buffer
  done-rest =
      let z : 0 + length (joined_text x y) ≡ n = omega (arith, shown.count) in
      ap (drop n) joined-cut ∙ drop_at (joined_text x y) _ n (sym shown.count) ∙ ap (λ (k : ℕ). drop k buffer) z

  -- ---- what is written

  trips-joined : IsJoin (trips_in x) (trips_in y) (joined_trips x y)
  trips-joined = is_join (trips_in x) (trips_in y) (trips-valid x) (trips-valid y) (agree_of x y shown.free)

  -- it is parsed as the joined trips
  pub output-trips : parse (take n (joined x y buffer)) ≡ trips (joined_trips x y)
  output-trips = ap parse done-front ∙ parse-spell (joined_trips x y) trips-joined.order

  -- it is accepted, and the reader counts its trips
  pub output_accepted : list_answer (take n (joined x y buffer)) ≡ done (length (trips_in (take n (joined x y buffer))))
  output_accepted =
      let short : length (joined_text x y) ≤ 4096 = omega (arith, shown.count, shown.short) in
      ap list_answer done-front
      ∙ spell_accepted (joined_trips x y) trips-joined.order short
      ∙ ap (λ (p : Parsed). done (length (trips_of p))) (sym output-trips)

  -- it is its own spelling
  pub output_again : spelling (take n (joined x y buffer)) ≡ take n (joined x y buffer)
  output_again = ap (λ (p : Parsed). spell (trips_of p)) output-trips ∙ sym done-front

  -- its trips are those of both lists and no others, in minute order
  pub output-join : IsJoin (trips_in x) (trips_in y) (trips_in (take n (joined x y buffer)))
  output-join = rw output-trips trips-joined

  -- so it has each trip of either list
  pub has_each : (t : Trip) → Memᴰ t (trips_in x) ⊎ Memᴰ t (trips_in y) → Memᴰ t (trips_in (take n (joined x y buffer)))
  has_each t m = ⊎_elim (output-join.first t) (output-join.second t) m

  -- and no others
  pub has_no_other : (t : Trip) → Memᴰ t (trips_in (take n (joined x y buffer))) → Memᴰ t (trips_in x) ⊎ Memᴰ t (trips_in y)
  has_no_other = output-join.others

  -- the minutes of its trips rise strictly
  pub output_rise : (d : Trip) (i j : ℕ) → i < j → j < length (trips_in (take n (joined x y buffer)))
      → (get_or (trips_in (take n (joined x y buffer))) i d).minute < (get_or (trips_in (take n (joined x y buffer))) j d).minute
  output_rise d = minutes_rise 0 (trips_in (take n (joined x y buffer))) d output-join.order

  -- none of them appears twice
  pub output_once : (d : Trip) (i j : ℕ) → i < length (trips_in (take n (joined x y buffer))) → j < length (trips_in (take n (joined x y buffer)))
      → get_or (trips_in (take n (joined x y buffer))) i d ≡ get_or (trips_in (take n (joined x y buffer))) j d → i ≡ j
  output_once = valid_once (trips_in (take n (joined x y buffer))) output-join.order

  -- no other bytes that are their own spelling have these trips
  pub output_only : (z : List ℕ) → spelling z ≡ z → IsJoin (trips_in x) (trips_in y) (trips_in z) → z ≡ take n (joined x y buffer)
  output_only z q j =
      sym q ∙ ap spell (only_join (trips_in x) (trips_in y) (trips-valid x) (trips-valid y) (trips_in z) j) ∙ sym done-front

-- where the text is too long, no accepted list has these trips
pub long-none : (x y z : List ℕ) → 4096 < length (joined_text x y) → IsJoin (trips_in x) (trips_in y) (trips_in z) → (list_answer z).number ≢ 0
long-none x y z h j e =
    let q = ap (λ (ts : List Trip). length (spell ts)) (only_join (trips_in x) (trips_in y) (trips-valid x) (trips-valid y) (trips_in z) j) in
    absurd (omega (arith, q, never_longer z, accepted_short z (list_answer z).count (number-done (list_answer z) e)))

-- ---- calls that give the same

-- of accepted lists only the trips count
pub trips_decide : (x y z w buffer : List ℕ) → (list_answer x).number ≡ 0 → (list_answer y).number ≡ 0 → (list_answer z).number ≡ 0 → (list_answer w).number ≡ 0
    → trips_in x ≡ trips_in z → trips_in y ≡ trips_in w → (join_answer x y buffer ≡ join_answer z w buffer) × (joined x y buffer ≡ joined z w buffer)
unfolding join_answer joined
trips_decide x y z w buffer ex ey ez ew q p = rw (eq-eqb _ _ ex, eq-eqb _ _ ey, eq-eqb _ _ ez, eq-eqb _ _ ew, q, p) (refl, refl)

again : (list : List ℕ) → (list_answer list).number ≡ 0 → (list_answer (spelling list)).number ≡ 0
again list e = ap (λ (c : Coded). c.number) (accepted_again list (list_answer list).count (number-done (list_answer list) e))

module _ (x y buffer : List ℕ) (ex : (list_answer x).number ≡ 0) (ey : (list_answer y).number ≡ 0) where
  -- so their spellings serve as well
  pub spellings_joined : (join_answer (spelling x) (spelling y) buffer ≡ join_answer x y buffer) × (joined (spelling x) (spelling y) buffer ≡ joined x y buffer)
  spellings_joined =
      trips_decide (spelling x) (spelling y) x y buffer (again x ex) (again y ey) ex ey (ap trips_of (parsed_again x)) (ap trips_of (parsed_again y))

  -- and the lists may change places
  pub places-change : (join_answer x y buffer ≡ join_answer y x buffer) × (joined x y buffer ≡ joined y x buffer)
  unfolding join_answer joined
  places-change =
      let turn = agree_commutes (trips_in x) (trips_in y) in
      cases (agree (trips_in x) (trips_in y))
      (λ e. rw (eq-eqb _ _ ex, eq-eqb _ _ ey, e, sym turn ∙ e, join_commutes (trips_in x) (trips_in y) (trips-valid x) (trips-valid y) e) (refl, refl))
      (λ e. cases (eqb (length buffer) greatest_list) (λ h. rw (h, eq-eqb _ _ ex, eq-eqb _ _ ey, e, sym turn ∙ e) (refl, refl)) (λ h. rw h (refl, refl)))

-- ---- as the writer does with one list, accepted or not

no_trips : parse [] ≡ trips []
unfolding parse parse_from
no_trips = refl

empty_accepted : list_answer [] ≡ done 0
unfolding list_answer
empty_accepted = rw no_trips

module _ (x buffer : List ℕ) where
  spelling-fits : (list_answer x).number ≡ 0 → length (spelling x) ≤ 4096
  spelling-fits e = omega (arith, never_longer x, accepted_short x (list_answer x).count (number-done (list_answer x) e))

  -- a list joined with itself
  pub joined_self : (join_answer x x buffer ≡ write_answer x buffer) × (joined x x buffer ≡ written x buffer)
  unfolding join_answer joined write_answer written
  joined_self =
      split_eq (list_answer x).number 0
      (λ e. rw (eq-eqb _ _ e, agree_self (trips_in x) (trips-valid x), join_self (trips_in x) (trips-valid x), le-leb _ _ (spelling-fits e)) (refl, refl))
      (λ e. cases (eqb (length buffer) greatest_list) (λ h. rw (h, ne_eqb _ _ e, ne_eqb _ _ e) (refl, refl)) (λ h. rw h (refl, refl)))

  -- with the empty list
  pub joined-empty : (join_answer x [] buffer ≡ write_answer x buffer) × (joined x [] buffer ≡ written x buffer)
  unfolding join_answer joined write_answer written
  joined-empty =
      split_eq (list_answer x).number 0
      (λ e. rw (eq-eqb _ _ e, empty_accepted, no_trips, agree-none (trips_in x), join-none (trips_in x) (trips-valid x), le-leb _ _ (spelling-fits e)) (refl, refl))
      (λ e. cases (eqb (length buffer) greatest_list) (λ h. rw (h, ne_eqb _ _ e, ne_eqb _ _ e) (refl, refl)) (λ h. rw h (refl, refl)))

  -- and the empty list with it
  pub empty-joined : (join_answer [] x buffer ≡ write_answer x buffer) × (joined [] x buffer ≡ written x buffer)
  unfolding join_answer joined write_answer written
  empty-joined =
      split_eq (list_answer x).number 0
      (λ e. rw (empty_accepted, no_trips, eq-eqb _ _ e, none-agree (trips_in x), le-leb _ _ (spelling-fits e)) (refl, refl))
      (λ e. cases (eqb (length buffer) greatest_list) (λ h. rw (h, empty_accepted, ne_eqb _ _ e, ne_eqb _ _ e) (refl, refl)) (λ h. rw h (refl, refl)))
