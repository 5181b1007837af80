-- What holds of the calls: the reader, the answers, the refusals, the cursor and the writer.
use Rattle.std.proofs.Common.{◌≡◌, ℕ, zero, suc, ◌+◌, ◌<◌, ◌≤◌, true, false, eqb, ◌≢◌, ◌⊎◌, ◌↔◌, List, [], ◌∷◌, ◌++◌, Option, Some, None, Result, Ok, Err, map, length, get_or, take, drop, sym, refl, ap, ap₂, ◌∙◌, inl, inr, ⊎_elim, append_assoc, append-nil, le_of_suc-le-suc, not-suc-le-zero, add-one, arith, length-append, length-drop, drop_of_length-le, drop-cons, drop-drop, take_at, drop_at, lt-ltb, eq-eqb, ne_eqb, le-leb}
use mathlib.Core.Bool.{false≢true}
use lib.ListN.{length-map}
use lib.Seq.{drop-append_seam}
use borrow.Author.Tests.{lt-leb}
use borrow.Table.Steps.{cases}
use Rattle.answer.specs.declared.Refusal.{Refusal}
use Rattle.answer.specs.Coded.{Coded, done, coded_refusal, SHAPE, RANGE, TRIP_FORM, TRIP_ORDER}
use Rattle.answer.proofs.Coded.{number-done, refusal-number, coded_injective}
use Rattle.memory.specs.Bytes.{part}
use Rattle.memory.proofs.Bytes.{overwrite-cut}
use Rattle.memory.proofs.Cases.{split_eq, split_lt}
use Rattle.text.specs.Decimal.{value, decimal, leading_zeros}
use Rattle.text.proofs.Decimal.{value-decimal, decimal_no_zeros}
use Rattle.trip_list.specs.declared.Trip as code
use Rattle.trip_list.specs.declared.Line as line
use Rattle.trip_list.specs.declared.Lookup.{Lookup}
use Rattle.trip_list.specs.Trip.{Trip, trip_of, spell, line_of}
use Rattle.trip_list.specs.List.{Parsed, trips, refusal, before, parse_from, parse, trips_of, answer_of, list_answer, spelling, write_answer, written, valid_from, valid}
use Rattle.trip_list.specs.Lines.{has_line, first_trip, line_length, driver_start, line_start}
use Rattle.trip_list.specs.Lookup.{Located, located, Given, given, trip_or_none, looked, read_trip, next_answer, next_trip}
use Rattle.trip_list.specs.Steps.{Told, told}
use Rattle.trip_list.specs.Walk.{walk_of, onward, walk, whole_walk, walk_parsed}
use Rattle.trip_list.specs.Entries.{Entry, lines_of, entries_from, entry_trip}
use Rattle.trip_list.proofs.Lines.{Three, minute_of, metres_of, driver_of, texts, line_has, line-trip, line-driver, line_length_lem, line-rest}
use Rattle.trip_list.proofs.Parsing.{Accepted, line_some, line-within, from-malformed, from_falling, list-parsed, list-range, accepted, accepted_short, accepted_trips}
use Rattle.trip_list.proofs.Claims.{number_spelled, first-valid, trips-valid, spell-line, no_bytes, line-parsed, first_entry, entries_accepted, accepted_entries, never_longer, parsed_again, accepted_again, output, output-spelled, same_trips-same_bytes, same_bytes_same_trips}
use Rattle.trip_list.proofs.Stepping.{driver-within}
use Rattle.trip_list.proofs.Walking.{before_all, before-refused, place-line, driver-part, next-range, next_end, write_shape}

-- ---- the reader

-- a located trip is the one at a place, and its driver's bytes lie in the list where it says
pub record TripAt (list : List ℕ) (place : ℕ) (l : Located) : Type 0 where
  pub trip : (d : Trip) → l.trip ≡ get_or (trips_of (parse list)) place d
  pub letters : l.letters ≡ length l.trip.driver
  pub bytes : part list l.driver l.letters ≡ l.trip.driver
  pub within : l.driver + l.letters < length list

module _ (list : List ℕ) (place : ℕ) where
  -- the answer is the list's, at every place
  pub read_answer : (read_trip list place).answer ≡ list_answer list
  unfolding read_trip
  read_answer = refl

  -- a refused list gives no trip
  pub refused_no_trip : (list_answer list).number ≢ 0 → (read_trip list place).trip ≡ []
  unfolding read_trip
  refused_no_trip h = rw (ne_eqb _ _ h)

  module _ (n : ℕ) (e : list_answer list ≡ done n) where
    -- a place below the count gives the trip there
    pub trip-below : place < n → (l : Located) × ((read_trip list place).trip ≡ l ∷ []) × TripAt list place l
    unfolding read_trip parse
    trip-below h =
        let ts = trips_of (parse list) in
        let at = line_start place list in
        let s = drop at list in
        let below : place < length ts = omega (arith, accepted_trips list n e) in
        let p = place-line place 0 list ts (accepted list n e) below in
        let there : (d : Trip) → first_trip s ≡ get_or ts place d =
        λ d. ap (λ (us : List Trip). get_or us 0 d) (sym p.1 ∙ ap (take 1) (drop-cons ts place d below)) in
        let within : at + driver_start s + length (first_trip s).driver < length list = omega (arith, driver-within s p.0, line-within s p.0, length-drop at list) in
        let bytes = ap (take (length (first_trip s).driver)) (sym (drop-drop (driver_start s) at list)) ∙ driver-part s p.0 in
        (located (first_trip s) (at + driver_start s), rw (e, p.1), record { trip = there; letters = refl; bytes = bytes; within = within })

    -- a place past the last gives none
    pub none_past : n ≤ place → (read_trip list place).trip ≡ []
    unfolding read_trip
    none_past h =
        let c : length (trips_of (parse list)) ≤ place = omega (arith, accepted_trips list n e) in
        rw (e, drop_of_length-le (trips_of (parse list)) c)

    -- so one is found exactly below the count
    pub found_exactly : (length (read_trip list place).trip ≡ 1) ↔ (place < n)
    found_exactly = (
      λ one. split_lt place n (λ h. h) (λ h. absurd (omega (arith, one, ap length (none_past h)))),
      λ h. ap length (trip-below h).1,
    )

-- ---- the answers

-- a list of more than 4,096 bytes is refused with RANGE
pub long-refused : (list : List ℕ) → 4096 < length list → list_answer list ≡ RANGE
long-refused list h = sym (list-range list h)

-- any other has the answer of its lines
pub short-parsed : (list : List ℕ) → length list ≤ 4096 → list_answer list ≡ answer_of (parse list)
short-parsed list h = sym (list-parsed list h)

-- lines of the form with rising minutes, of at most 4,096 bytes, are accepted, and counted
pub entries-done : (es : List Entry) → entries_from 0 es ≡ true → length (lines_of es) ≤ 4096 → list_answer (lines_of es) ≡ done (length es)
unfolding parse
entries-done es form short = short-parsed (lines_of es) short ∙ ap answer_of (entries_accepted 0 es form) ∙ ap done (length-map es entry_trip)

-- and no other list is
pub done-entries : (list : List ℕ) (n : ℕ) → list_answer list ≡ done n
    → (es : List Entry) × (entries_from 0 es ≡ true) × (length (lines_of es) ≤ 4096) × (length es ≡ n) × (list ≡ lines_of es)
unfolding parse
done-entries list n e =
    let x = accepted_entries 0 list (trips_of (parse list)) (accepted list n e) in
    let short : length (lines_of x.entries) ≤ 4096 = omega (arith, accepted_short list n e, ap length x.whole) in
    let count : length x.entries ≡ n = sym (length-map x.entries entry_trip) ∙ ap length x.meaning ∙ accepted_trips list n e in
    (x.entries, x.form, short, count, x.whole)

-- ---- the reader, by the texts of a list

-- the index of a line's driver, past its numbers and their commas
abbrev pub driver_index : Entry → ℕ
driver_index e = length e.minute + 1 + (length e.metres + 1)

-- where a line starts, and what starts there
record StartsAt (es : List Entry) (e : Entry) (fs : List Entry) : Type 0 where
  index : line_start (length es) (lines_of (es ++ (e ∷ fs))) ≡ length (lines_of es)
  bytes : drop (line_start (length es) (lines_of (es ++ (e ∷ fs)))) (lines_of (es ++ (e ∷ fs))) ≡ lines_of (e ∷ fs)
  three : Three e.minute e.metres e.driver

starts_at : (least : ℕ) (es : List Entry) (e : Entry) (fs : List Entry) → entries_from least (es ++ (e ∷ fs)) ≡ true → StartsAt es e fs
starts_at least [] e fs q = record { index = refl; bytes = refl; three = (first_entry least e fs q).three }
starts_at least (x ∷ xs) e fs q =
    let f = first_entry least x (xs ++ (e ∷ fs)) q in
    let r = starts_at (value x.minute + 1) xs e fs f.rest in
    let more = lines_of (xs ++ (e ∷ fs)) in
    let s = line_of x.minute x.metres x.driver more in
    let rest : drop (line_length s) s ≡ more = line-rest x.minute x.metres x.driver more f.three in
    let size : length (lines_of (x ∷ xs)) ≡ length x.minute + length x.metres + length x.driver + 3 + length (lines_of xs) = simp length-append (omega arith) in
    record {
      index = omega (arith, size, line_length_lem x.minute x.metres x.driver more f.three, ap (line_start (length xs)) rest, r.index);
      bytes = sym (drop-drop (line_start (length xs) (drop (line_length s) s)) (line_length s) s) ∙ ap (λ (l : List ℕ). drop (line_start (length xs) l) l) rest ∙ r.bytes;
      three = r.three;
    }

trip-after : (es : List Entry) (e : Entry) (fs : List Entry) → take 1 (drop (length es) (map entry_trip (es ++ (e ∷ fs)))) ≡ entry_trip e ∷ []
trip-after [] e fs = refl
trip-after (x ∷ xs) e fs = trip-after xs e fs

-- at each line's place the reader gives its trip, and where its driver lies
pub read_entry : (es : List Entry) (e : Entry) (fs : List Entry) → entries_from 0 (es ++ (e ∷ fs)) ≡ true → length (lines_of (es ++ (e ∷ fs))) ≤ 4096
    → read_trip (lines_of (es ++ (e ∷ fs))) (length es) ≡ given (done (length (es ++ (e ∷ fs)))) (located (entry_trip e) (length (lines_of es) + driver_index e) ∷ [])
unfolding read_trip parse
read_entry es e fs form short =
    let x = starts_at 0 es e fs form in
    rw (
      entries-done (es ++ (e ∷ fs)) form short,
      entries_accepted 0 (es ++ (e ∷ fs)) form,
      trip-after es e fs,
      x.bytes,
      x.index,
      line-driver e.minute e.metres e.driver (lines_of fs) x.three,
    )

-- ---- which lists are refused, and how

-- lines of the form with rising minutes, then bytes that do not begin with a line
pub record BadForm (list : List ℕ) : Type 0 where
  pub entries : List Entry
  pub rest : List ℕ
  pub form : entries_from 0 entries ≡ true
  pub whole : list ≡ lines_of entries ++ rest
  pub some : 0 < length rest
  pub bad : has_line rest ≡ false

-- such lines, then a line of the form whose minute is not above that of the last, then any bytes
pub record BadOrder (list : List ℕ) : Type 0 where
  pub entries : List Entry
  pub last : Entry
  pub next : Entry
  pub rest : List ℕ
  pub form : entries_from 0 (entries ++ (last ∷ [])) ≡ true
  pub next_form : entries_from 0 (next ∷ []) ≡ true
  pub falls : value next.minute ≤ value last.minute
  pub whole : list ≡ lines_of (entries ++ (last ∷ [])) ++ (lines_of (next ∷ []) ++ rest)

-- the least minute after these lines
abbrev least_after : ℕ → List Entry → ℕ
least_after least [] = least
least_after least (e ∷ es) = least_after (value e.minute + 1) es

after_last : (least : ℕ) (es : List Entry) (e : Entry) → least_after least (es ++ (e ∷ [])) ≡ value e.minute + 1
after_last least [] e = refl
after_last least (x ∷ xs) e = after_last (value x.minute + 1) xs e

line_then : (e : Entry) (es : List Entry) (r : List ℕ) → lines_of (e ∷ es) ++ r ≡ line_of e.minute e.metres e.driver (lines_of es ++ r)
line_then e es r = simp append_assoc

entries_then : (least : ℕ) (es : List Entry) (r : List ℕ) → entries_from least es ≡ true
    → parse_from least (lines_of es ++ r) ≡ before_all (map entry_trip es) (parse_from (least_after least es) r)
entries_then least [] r q = refl
entries_then least (e ∷ es) r q =
    let f = first_entry least e es q in
    ap (parse_from least) (line_then e es r)
    ∙ line-parsed least e.minute e.metres e.driver (lines_of es ++ r) f.three f.rises
    ∙ ap (before (entry_trip e)) (entries_then (value e.minute + 1) es r f.rest)

-- an entry and any bytes begin with a line
module _ (e : Entry) (r : List ℕ) (q : entries_from 0 (e ∷ []) ≡ true) where
  pub entry_line : has_line (lines_of (e ∷ []) ++ r) ≡ true
  entry_line = ap has_line (line_then e [] r) ∙ line_has e.minute e.metres e.driver r (first_entry 0 e [] q).three

  entry_trip_lem : first_trip (lines_of (e ∷ []) ++ r) ≡ entry_trip e
  entry_trip_lem = ap first_trip (line_then e [] r) ∙ line-trip e.minute e.metres e.driver r (first_entry 0 e [] q).three

-- and bytes that begin with a line are an entry and more
pub line_entry : (s : List ℕ) → has_line s ≡ true
    → (e : Entry) × (r : List ℕ) × (entries_from 0 (e ∷ []) ≡ true) × (s ≡ lines_of (e ∷ []) ++ r) × (first_trip s ≡ entry_trip e) × (r ≡ drop (line_length s) s)
unfolding first_trip trip_of
line_entry s form =
    let t = texts s form in
    let e : Entry = record { minute = minute_of s; metres = metres_of s; driver = driver_of s } in
    let r = drop (line_length s) s in
    (e, r, rw (t.three.minute, t.three.metres, t.three.driver, le-leb 0 (value (minute_of s)) (omega arith)), t.whole ∙ sym (line_then e [] r), refl, refl)

module _ (list : List ℕ) where
  -- the first is refused with TRIP-FORM
  pub form-refused : BadForm list → parse list ≡ refusal TRIP_FORM
  unfolding parse
  form-refused b =
      let ts = map entry_trip b.entries in
      ap (parse_from 0) b.whole
      ∙ entries_then 0 b.entries b.rest b.form
      ∙ ap (before_all ts) (from-malformed (least_after 0 b.entries) b.rest b.some b.bad)
      ∙ before-refused ts TRIP_FORM

  -- the second with TRIP-ORDER
  pub order-refused : BadOrder list → parse list ≡ refusal TRIP_ORDER
  unfolding parse
  order-refused b =
      let es = b.entries ++ (b.last ∷ []) in
      let ts = map entry_trip es in
      let s = lines_of (b.next ∷ []) ++ b.rest in
      let form = entry_line b.next b.rest b.next_form in
      let some : 0 < length s = omega (arith, line_some s, line-within s form) in
      let minute : (first_trip s).minute ≡ value b.next.minute = ap (λ (t : Trip). t.minute) (entry_trip_lem b.next b.rest b.next_form) in
      let low : (first_trip s).minute < least_after 0 es = omega (arith, minute, after_last 0 b.entries b.last, b.falls) in
      ap (parse_from 0) b.whole
      ∙ entries_then 0 es s b.form
      ∙ ap (before_all ts) (from_falling (least_after 0 es) s some form low)
      ∙ before-refused ts TRIP_ORDER

  -- and that is its answer, where it has at most 4,096 bytes
  module _ (short : length list ≤ 4096) where
    pub form-answer : BadForm list → list_answer list ≡ TRIP_FORM
    form-answer b = short-parsed list short ∙ ap answer_of (form-refused b)

    pub order-answer : BadOrder list → list_answer list ≡ TRIP_ORDER
    order-answer b = short-parsed list short ∙ ap answer_of (order-refused b)

-- the lines of the form in front, as long as their minutes rise, and what stops them
record Reached (least : ℕ) (s : List ℕ) : Type 0 where
  entries : List Entry
  rest : List ℕ
  form : entries_from least entries ≡ true
  whole : s ≡ lines_of entries ++ rest
  stop : (length rest ≡ 0) ⊎ (((0 < length rest) × (has_line rest ≡ false)) ⊎ ((has_line rest ≡ true) × ((first_trip rest).minute < least_after least entries)))

reached : (fuel least : ℕ) (s : List ℕ) → length s ≤ fuel → Reached least s
unfolding first_trip trip_of
reached zero least s short = record { entries = []; rest = s; form = refl; whole = refl; stop = inl (omega arith) }
reached (suc fuel) least s short =
    split_lt 0 (length s)
    (λ some. cases (has_line s)
    (λ has.
    let t = texts s has in
    let e : Entry = record { minute = minute_of s; metres = metres_of s; driver = driver_of s } in
    let rest = drop (line_length s) s in
    split_lt (first_trip s).minute least
    (λ low. record { entries = []; rest = s; form = refl; whole = refl; stop = inr (inr (has, low)) })
    (λ up.
    let r = reached fuel (value (minute_of s) + 1) rest (omega (arith, length-drop (line_length s) s, line_some s)) in
    record {
      entries = e ∷ r.entries;
      rest = r.rest;
      form = rw (t.three.minute, t.three.metres, t.three.driver, le-leb _ _ up) r.form;
      whole = t.whole ∙ ap (λ (l : List ℕ). line_of (minute_of s) (metres_of s) (driver_of s) l) r.whole ∙ sym (line_then e r.entries r.rest);
      stop = r.stop;
    }))
    (λ bad. record { entries = []; rest = s; form = refl; whole = refl; stop = inr (inl (some, bad)) }))
    (λ none. record { entries = []; rest = s; form = refl; whole = refl; stop = inl (omega arith) })

-- all but the last, and the last
split-last : (e : Entry) (es : List Entry) → (first : List Entry) × (last : Entry) × (e ∷ es ≡ first ++ (last ∷ []))
split-last e [] = ([], e, refl)
split-last e (x ∷ xs) = let r = split-last x xs in (e ∷ r.0, r.1, ap (λ (l : List Entry). e ∷ l) r.2)

module _ (list rest : List ℕ) where
  order_at : (es : List Entry) → entries_from 0 es ≡ true → list ≡ lines_of es ++ rest → has_line rest ≡ true → (first_trip rest).minute < least_after 0 es → BadOrder list
  order_at [] form whole has low = absurd (not-suc-le-zero low)
  order_at (e ∷ es) form whole has low =
      let p = split-last e es in
      let l = line_entry rest has in
      let after : least_after 0 (e ∷ es) ≡ value p.1.minute + 1 = ap (least_after 0) p.2 ∙ after_last 0 p.0 p.1 in
      let minute : (first_trip rest).minute ≡ value l.0.minute = ap (λ (t : Trip). t.minute) l.4 in
      record {
        entries = p.0;
        last = p.1;
        next = l.0;
        rest = l.1;
        form = ap (entries_from 0) (sym p.2) ∙ form;
        next_form = l.2;
        falls = omega (arith, low, after, minute);
        whole = whole ∙ ap (λ (x : List ℕ). lines_of (e ∷ es) ++ x) l.3 ∙ ap (λ (xs : List Entry). lines_of xs ++ (lines_of (l.0 ∷ []) ++ l.1)) p.2;
      }

-- every list is accepted or one of these two
pub every-list : (list : List ℕ) → Accepted list ⊎ (BadForm list ⊎ BadOrder list)
unfolding parse
every-list list =
    let r = reached (length list) 0 list (omega arith) in
    ⊎_elim
    (λ none.
    let whole : list ≡ lines_of r.entries = r.whole ∙ ap (λ (x : List ℕ). lines_of r.entries ++ x) (no_bytes r.rest none) ∙ append-nil (lines_of r.entries) in
    let q : parse_from 0 list ≡ trips (map entry_trip r.entries) = ap (parse_from 0) whole ∙ entries_accepted 0 r.entries r.form in
    inl (q ∙ ap (λ (p : Parsed). trips (trips_of p)) (sym q)))
    (λ s. inr (⊎_elim
    (λ b. inl (record { entries = r.entries; rest = r.rest; form = r.form; whole = r.whole; some = b.0; bad = b.1 }))
    (λ b. inr (order_at list r.rest r.entries r.form r.whole b.0 b.1))
    s))
    r.stop

-- ---- the cursor

few-lines : (es : List Entry) → length es ≤ length (lines_of es)
few-lines [] = omega arith
few-lines (e ∷ es) =
    let l : length (lines_of (e ∷ es)) ≡ length e.minute + length e.metres + length e.driver + 3 + length (lines_of es) = simp length-append (omega arith) in
    omega (arith, few-lines es)

module _ (list : List ℕ) (short : length list ≤ 4096) where
  module _ (at least : ℕ) where
    abbrev s : List ℕ
    s = drop at list

    module _ (inside : at < length list) where
      next-line : has_line s ≡ true → least ≤ (first_trip s).minute
          → next_trip list at least ≡ given (done (at + line_length s)) (located (first_trip s) (at + driver_start s) ∷ [])
      unfolding next_trip next_answer
      next-line has up =
          let some : 0 < at + line_length s = omega (arith, line_some s) in
          rw (le-leb _ _ short, lt-ltb _ _ inside, has, le-leb _ _ up, lt-ltb _ _ some)

      -- bytes that do not begin with a line, and a minute below the least
      pub next-malformed : has_line s ≡ false → next_trip list at least ≡ given TRIP_FORM []
      unfolding next_trip next_answer
      next-malformed bad = rw (le-leb _ _ short, lt-ltb _ _ inside, bad)

      pub next_falling : has_line s ≡ true → (first_trip s).minute < least → next_trip list at least ≡ given TRIP_ORDER []
      unfolding next_trip next_answer
      next_falling has low = rw (le-leb _ _ short, lt-ltb _ _ inside, has, lt-leb _ _ low)

    -- past the end it gives none, and count 0
    pub next_past : length list ≤ at → next_trip list at least ≡ given (done 0) []
    next_past h = sym (next_end list at least short h)

    -- at a line it gives its trip, where its driver lies, and as count the index after the line
    pub next_entry : (e : Entry) (r : List ℕ) → s ≡ lines_of (e ∷ []) ++ r → entries_from least (e ∷ []) ≡ true
        → next_trip list at least ≡ given (done (at + length (lines_of (e ∷ [])))) (located (entry_trip e) (at + driver_index e) ∷ [])
    next_entry e r q form =
        let f = first_entry least e [] form in
        let m = e.minute in
        let k = e.metres in
        let d = e.driver in
        let whole : s ≡ line_of m k d r = q ∙ line_then e [] r in
        let has : has_line s ≡ true = ap has_line whole ∙ line_has m k d r f.three in
        let is : first_trip s ≡ entry_trip e = ap first_trip whole ∙ line-trip m k d r f.three in
        let up : least ≤ (first_trip s).minute = omega (arith, f.rises, ap (λ (t : Trip). t.minute) is) in
        let inside : at < length list = omega (arith, length-drop at list, line_some s, line-within s has) in
        let size : length (lines_of (e ∷ [])) ≡ length m + length k + length d + 3 = simp length-append (omega arith) in
        let n : line_length s ≡ length (lines_of (e ∷ [])) = ap line_length whole ∙ line_length_lem m k d r f.three ∙ sym size in
        let i : driver_start s ≡ driver_index e = ap driver_start whole ∙ line-driver m k d r f.three in
        next-line inside has up ∙ rw (is, n, i)

  -- where these bytes are the rest of the list, the cursor stops
  abbrev Stops : ℕ → List ℕ → Coded → Type 0
  Stops least r a = (at : ℕ) → drop at list ≡ r → next_trip list at least ≡ given a []

  some_left : (at : ℕ) (r : List ℕ) → drop at list ≡ r → 0 < length r → at < length list
  some_left at r q h = omega (arith, length-drop at list, ap length q)

  walk-entries : (es : List Entry) (steps at least : ℕ) (r : List ℕ) (a : Coded) → drop at list ≡ lines_of es ++ r → entries_from least es ≡ true
      → length es < steps → Stops (least_after least es) r a → walk steps list at least ≡ walk_of (map entry_trip es) a
  walk-entries es zero at least r a q form few stops = absurd (not-suc-le-zero few)
  walk-entries [] (suc steps) at least r a q form few stops = rw (stops at q)
  walk-entries (e ∷ es) (suc steps) at least r a q form few stops =
      let f = first_entry least e es form in
      let line = lines_of (e ∷ []) in
      let more = lines_of es ++ r in
      let alone : entries_from least (e ∷ []) ≡ true = rw (f.three.minute, f.three.metres, f.three.driver, le-leb _ _ f.rises) in
      let whole : drop at list ≡ line ++ more = q ∙ line_then e es r ∙ sym (line_then e [] more) in
      let rest : drop (at + length line) list ≡ more = sym (drop-drop (length line) at list) ∙ ap (drop (length line)) whole ∙ drop-append_seam line more in
      rw (next_entry at least e more whole alone)
      (ap (onward (entry_trip e)) (walk-entries es steps (at + length line) (value e.minute + 1) r a rest f.rest (omega arith) stops))

  whole_walk_lem : (es : List Entry) (r : List ℕ) (a : Coded) → list ≡ lines_of es ++ r → entries_from 0 es ≡ true → Stops (least_after 0 es) r a
      → whole_walk list ≡ walk_of (map entry_trip es) a
  unfolding whole_walk
  whole_walk_lem es r a q form stops =
      walk-entries es (length list + 1) 0 0 r a q form (omega (arith, few-lines es, ap length q, length-append (lines_of es) r)) stops

  -- over an accepted list it gives the trips, and then done with count 0
  pub walk_accepted : Accepted list → whole_walk list ≡ walk_of (trips_of (parse list)) (done 0)
  unfolding parse
  walk_accepted acc =
      let x = accepted_entries 0 list (trips_of (parse list)) acc in
      let stops : Stops (least_after 0 x.entries) [] (done 0) =
      λ at q. sym (next_end list at (least_after 0 x.entries) short (omega (arith, length-drop at list, ap length q))) in
      whole_walk_lem x.entries [] (done 0) (x.whole ∙ sym (append-nil (lines_of x.entries))) x.form stops
      ∙ ap (λ (ts : List Trip). walk_of ts (done 0)) x.meaning

  -- over a refused one the trips of the lines before the first bad one, and then the refusal
  pub walk-form : (b : BadForm list) → whole_walk list ≡ walk_of (map entry_trip b.entries) TRIP_FORM
  walk-form b =
      whole_walk_lem b.entries b.rest TRIP_FORM b.whole b.form
      (λ at q. next-malformed at (least_after 0 b.entries) (some_left at b.rest q b.some) (ap has_line q ∙ b.bad))

  pub walk-order : (b : BadOrder list) → whole_walk list ≡ walk_of (map entry_trip (b.entries ++ (b.last ∷ []))) TRIP_ORDER
  walk-order b =
      let es = b.entries ++ (b.last ∷ []) in
      let r = lines_of (b.next ∷ []) ++ b.rest in
      let has = entry_line b.next b.rest b.next_form in
      let minute : (first_trip r).minute ≡ value b.next.minute = ap (λ (t : Trip). t.minute) (entry_trip_lem b.next b.rest b.next_form) in
      whole_walk_lem es r TRIP_ORDER b.whole b.form
      (λ at q.
      let inside = some_left at r q (omega (arith, line_some r, line-within r has)) in
      let low : (first_trip (drop at list)).minute < least_after 0 es =
      omega (arith, ap (λ (x : List ℕ). (first_trip x).minute) q, minute, after_last 0 b.entries b.last, b.falls) in
      next_falling at (least_after 0 es) inside (ap has_line q ∙ has) low)

  -- so the steps say of a list what its lines say
  pub walk-parse : walk_parsed (whole_walk list) ≡ parse list
  walk-parse =
      ⊎_elim
      (λ acc. ap walk_parsed (walk_accepted acc) ∙ sym acc)
      (λ bad. ⊎_elim
      (λ b. ap walk_parsed (walk-form b) ∙ sym (form-refused list b))
      (λ b. ap walk_parsed (walk-order b) ∙ sym (order-refused list b))
      bad)
      (every-list list)

-- a list of more than 4,096 bytes is refused at the first step
pub walk-long : (list : List ℕ) → 4096 < length list → whole_walk list ≡ walk_of [] RANGE
unfolding whole_walk
walk-long list h = rw (add-one (length list)) (rw (← next-range list 0 0 h))

-- ---- the writer

module _ (list buffer : List ℕ) where
  -- refused, the buffer is as it came
  pub refused-untouched : (write_answer list buffer).number ≢ 0 → written list buffer ≡ buffer
  unfolding written
  refused-untouched h = rw (ne_eqb _ _ h)

  -- a buffer of another length than 4,096 bytes is refused with SHAPE, whatever the list
  pub shape-first : length buffer ≢ 4096 → write_answer list buffer ≡ SHAPE
  shape-first h = sym (write_shape list buffer h).0

  module _ (h : length buffer ≡ 4096) where
    -- a refused list is refused with its own answer
    pub write-refused-list : (list_answer list).number ≢ 0 → write_answer list buffer ≡ list_answer list
    unfolding write_answer
    write-refused-list r = rw (eq-eqb _ _ h, ne_eqb _ _ r)

    -- an accepted list is written: the count is the number of its spelling's bytes
    pub write-counted : (list_answer list).number ≡ 0 → write_answer list buffer ≡ done (length (spelling list))
    unfolding write_answer
    write-counted e = rw (eq-eqb _ _ h, eq-eqb _ _ e)

  -- so it is done only with such a buffer and an accepted list
  done_only : (write_answer list buffer).number ≡ 0 → (length buffer ≡ 4096) × ((list_answer list).number ≡ 0)
  done_only e =
      split_eq (length buffer) 4096
      (λ h. split_eq (list_answer list).number 0
      (λ a. (h, a))
      (λ a. absurd (a (sym (ap (λ (c : Coded). c.number) (write-refused-list h a)) ∙ e))))
      (λ h. absurd (omega (arith, ap (λ (c : Coded). c.number) (shape-first h))))

  module _ (n : ℕ) (e : write_answer list buffer ≡ done n) where
    -- done, the count is the length of the spelling
    pub done-count : n ≡ length (spelling list)
    done-count =
        let o = done_only (ap (λ (c : Coded). c.number) e) in
        ap (λ (c : Coded). c.count) (sym e ∙ write-counted o.0 o.1)

    written-cut : written list buffer ≡ spelling list ++ drop (0 + length (spelling list)) buffer
    unfolding written
    written-cut =
        let o = done_only (ap (λ (c : Coded). c.number) e) in
        let short = accepted_short list (list_answer list).count (number-done (list_answer list) o.1) in
        let fits : 0 + length (spelling list) ≤ length buffer = omega (arith, never_longer list, o.0) in
        rw e (overwrite-cut buffer 0 (spelling list) fits)

    -- so many bytes in front are the spelling
    pub done-front : take n (written list buffer) ≡ spelling list
    done-front = ap (take n) written-cut ∙ take_at (spelling list) _ n (sym done-count)

    -- and those after them are as they came
    pub done-rest : drop n (written list buffer) ≡ drop n buffer
    done-rest =
        let z : 0 + length (spelling list) ≡ n = omega (arith, done-count) in
        ap (drop n) written-cut ∙ drop_at (spelling list) _ n (sym done-count) ∙ ap (λ (k : ℕ). drop k buffer) z

-- ---- the same trips, in the reader's words

-- the three fields at a place, or none
abbrev pub fields_at : List ℕ → ℕ → List Trip
fields_at list place = map (λ (l : Located). l.trip) (read_trip list place).trip

located-trips : (at : ℕ) (ts : List Trip) → map (λ (l : Located). l.trip) (map (λ (t : Trip). located t at) ts) ≡ ts
located-trips at [] = refl
located-trips at (t ∷ ts) = ap (λ (us : List Trip). t ∷ us) (located-trips at ts)

fields-trips : (list : List ℕ) (n : ℕ) → list_answer list ≡ done n → (place : ℕ) → fields_at list place ≡ take 1 (drop place (trips_of (parse list)))
unfolding read_trip
fields-trips list n e place =
    let at = line_start place list in
    rw e (located-trips (at + driver_start (drop at list)) (take 1 (drop place (trips_of (parse list)))))

same_places : (xs ys : List Trip) → ((k : ℕ) → take 1 (drop k xs) ≡ take 1 (drop k ys)) → xs ≡ ys
same_places [] [] h = refl
same_places [] (y ∷ ys) h = absurd (omega (arith, ap length (h 0)))
same_places (x ∷ xs) [] h = absurd (omega (arith, ap length (h 0)))
same_places (x ∷ xs) (y ∷ ys) h =
    let first : x ≡ y = ap (λ (us : List Trip). get_or us 0 x) (h 0) in
    ap (λ (t : Trip). t ∷ xs) first ∙ ap (λ (us : List Trip). y ∷ us) (same_places xs ys (λ k. h (suc k)))

-- the reader gives the same fields at every place exactly where the writer writes the same bytes
pub same_fields-same_bytes : (x y b c : List ℕ) (n m : ℕ) → list_answer x ≡ done n → list_answer y ≡ done m → length b ≡ 4096 → length c ≡ 4096
    → ((place : ℕ) → fields_at x place ≡ fields_at y place) ↔ (output x b ≡ output y c)
same_fields-same_bytes x y b c n m ex ey hb hc = (
  λ h. same_trips-same_bytes x y b c n m ex ey hb hc
      (same_places (trips_of (parse x)) (trips_of (parse y)) (λ place. sym (fields-trips x n ex place) ∙ h place ∙ fields-trips y m ey place)),
  λ q place.
      fields-trips x n ex place
      ∙ ap (λ (ts : List Trip). take 1 (drop place ts)) (same_bytes_same_trips x y b c n m ex ey hb hc q)
      ∙ sym (fields-trips y m ey place),
)

module _ (list buffer : List ℕ) (n : ℕ) (e : list_answer list ≡ done n) (h : length buffer ≡ 4096) where
  -- what is written is accepted, with the same count
  pub output-answer : list_answer (output list buffer) ≡ done n
  output-answer = ap list_answer (output-spelled list buffer n e h) ∙ accepted_again list n e

  -- and the reader gives the same fields of it at every place
  pub output-fields : (place : ℕ) → fields_at (output list buffer) place ≡ fields_at list place
  output-fields place =
      fields-trips (output list buffer) n output-answer place
      ∙ ap (λ (p : Parsed). take 1 (drop place (trips_of p))) (ap parse (output-spelled list buffer n e h) ∙ parsed_again list)
      ∙ sym (fields-trips list n e place)

-- ---- no zeros before the numbers of a written line

abbrev spelled_entry : Trip → Entry
spelled_entry t = record { minute = decimal t.minute; metres = decimal t.metres; driver = t.driver }

spell-entries : (ts : List Trip) → spell ts ≡ lines_of (map spelled_entry ts)
spell-entries [] = refl
spell-entries (t ∷ ts) = spell-line t (spell ts) ∙ ap (λ (r : List ℕ). line_of (decimal t.minute) (decimal t.metres) t.driver r) (spell-entries ts)

-- both numbers of every line have no zeros before their digits
abbrev pub NoZeros : List Entry → Type 0
NoZeros es = (k : ℕ) (d : Entry) → k < length es → (leading_zeros (get_or es k d).minute ≡ 0) × (leading_zeros (get_or es k d).metres ≡ 0)

spelled_no_zeros : (ts : List Trip) → NoZeros (map spelled_entry ts)
spelled_no_zeros [] k d h = absurd (not-suc-le-zero h)
spelled_no_zeros (t ∷ ts) zero d h = (decimal_no_zeros t.minute, decimal_no_zeros t.metres)
spelled_no_zeros (t ∷ ts) (suc k) d h = spelled_no_zeros ts k d (le_of_suc-le-suc h)

spelled-form : (least : ℕ) (ts : List Trip) → valid_from least ts ≡ true → entries_from least (map spelled_entry ts) ≡ true
spelled-form least [] q = refl
spelled-form least (t ∷ ts) q =
    let f = first-valid least t ts q in
    rw (number_spelled t.minute f.limits.minute, number_spelled t.metres f.limits.metres, f.limits.driver, value-decimal t.minute, le-leb _ _ f.rises)
    (spelled-form (t.minute + 1) ts f.rest)

spelled-trips : (ts : List Trip) → map entry_trip (map spelled_entry ts) ≡ ts
spelled-trips [] = refl
spelled-trips (t ∷ ts) = rw (value-decimal t.minute, value-decimal t.metres) (ap (λ (us : List Trip). t ∷ us) (spelled-trips ts))

-- the spelling of valid trips is lines of the form, with these trips, and with no such zeros
pub spelled-entries : (ts : List Trip) → valid ts ≡ true
    → (es : List Entry) × (spell ts ≡ lines_of es) × (entries_from 0 es ≡ true) × (map entry_trip es ≡ ts) × NoZeros es
spelled-entries ts q = (map spelled_entry ts, spell-entries ts, spelled-form 0 ts q, spelled-trips ts, spelled_no_zeros ts)

-- and so is what is written
pub output-entries : (list buffer : List ℕ) (n : ℕ) → list_answer list ≡ done n → length buffer ≡ 4096
    → (es : List Entry) × (output list buffer ≡ lines_of es) × (entries_from 0 es ≡ true) × (map entry_trip es ≡ trips_of (parse list)) × NoZeros es
output-entries list buffer n e h =
    let x = spelled-entries (trips_of (parse list)) (trips-valid list) in
    (x.0, output-spelled list buffer n e h ∙ x.1, x.2, x.3, x.4)

-- ---- what the code returns

trip_in : List Located → Option code.Trip
trip_in [] = None
trip_in (l ∷ ls) = Some (record { minute = l.trip.minute; metres = l.trip.metres; driver = l.driver; letters = l.letters })

trip_in_lem : (list : List ℕ) (t : Option code.Trip) → trip_in (trip_or_none list t) ≡ t
unfolding trip_in
trip_in_lem list None = refl
trip_in_lem list (Some t) = refl

-- a count is no refusal
done-refused : {A : Type 0} (r : Refusal) (n : ℕ) → done n ≡ coded_refusal r → A
done-refused r n e = absurd (false≢true (sym (refusal-number r) ∙ ap (λ (a : Coded). eqb a.number 0) (sym e)))

refusal_injective : (r q : Refusal) → coded_refusal r ≡ coded_refusal q → r ≡ q
refusal_injective r q e = let f : ◌≡◌ {A = Result ℕ Refusal} (Err r) (Err q) = coded_injective (Err r) (Err q) e in cc

-- two results of the code with one meaning are one result
pub looked_injective : (list : List ℕ) (a b : Result Lookup Refusal) → looked list a ≡ looked list b → a ≡ b
looked_injective list (Ok l) (Ok m) e =
    let n : l.count ≡ m.count = ap (λ (g : Given). g.answer.count) e in
    let t : l.trip ≡ m.trip = sym (trip_in_lem list l.trip) ∙ ap (λ (g : Given). trip_in g.trip) e ∙ trip_in_lem list m.trip in
    ap₂ (λ (k : ℕ) (u : Option code.Trip). Ok (record { count = k; trip = u })) n t
looked_injective list (Ok l) (Err r) e = done-refused r l.count (ap (λ (g : Given). g.answer) e)
looked_injective list (Err r) (Ok m) e = done-refused r m.count (ap (λ (g : Given). g.answer) (sym e))
looked_injective list (Err r) (Err q) e = ap Err (refusal_injective r q (ap (λ (g : Given). g.answer) e))

-- two steps that tell the same are one, so that a contract that gives `told r` gives r
pub told_injective : (a b : Result line.Line Refusal) → told a ≡ told b → a ≡ b
told_injective (Ok l) (Ok m) e = ap (λ (g : Told). Ok (get_or g.line 0 l)) e
told_injective (Ok l) (Err r) e = absurd (omega (arith, ap (λ (g : Told). length g.line) e))
told_injective (Err r) (Ok m) e = absurd (omega (arith, ap (λ (g : Told). length g.line) e))
told_injective (Err r) (Err q) e = ap Err (refusal_injective r q (ap (λ (g : Told). g.answer) e))
