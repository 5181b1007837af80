-- What holds of the definitions: which lists are accepted, and that there is one spelling.
use Rattle.std.proofs.Common.{◌≡◌, ℕ, zero, suc, ◌+◌, ◌<◌, ◌≤◌, true, ◌&&◌, leb, List, [], ◌∷◌, ◌++◌, map, length, get_or, take, drop, sym, refl, ap, ◌∙◌, append_assoc, le_of_suc-le-suc, not-suc-le-zero, arith, length-append, length-drop, take-append-drop, take_at, eq-eqb, le-leb, leb-true}
use Rattle.answer.specs.Coded.{done}
use Rattle.memory.proofs.Bytes.{overwrite-cut}
use Rattle.scan.proofs.Scan.{and_left, and_right, all_of_at}
use Rattle.text.specs.Decimal.{value, decimal}
use Rattle.text.specs.Marks.{LF, comma}
use Rattle.text.proofs.Decimal.{decimal_numeral, value-decimal}
use Rattle.trip_list.specs.Trip.{Trip, trip, greatest_number, is_number, is_driver, trip_of, spell_trip, spell, in_limits, line_of}
use Rattle.trip_list.specs.List.{Parsed, trips, refusal, before, parse_from, parse, trips_of, greatest_list, answer_of, list_answer, spelling, write_answer, written, valid_from, valid}
use Rattle.trip_list.specs.Lines.{has_line, first_trip, line_length}
use Rattle.trip_list.specs.Entries.{Entry, lines_of, entries_from, entry_trip}
use Rattle.trip_list.proofs.Lines.{number_small, Three, minute_of, metres_of, driver_of, texts, line_has, line-trip, line-rest}
use Rattle.trip_list.proofs.Parsing.{Accepted, line-within, from_end, from_next, parsed-first, parsed-none, list-parsed, accepted_short, accepted_trips}
use Rattle.trip_list.proofs.Spelling.{spell-shorter, spell_same}

-- ---- which lists are accepted: lines of three texts of the form, with rising minutes, and no others

pub line-parsed : (least : ℕ) (m k d r : List ℕ) → Three m k d → least ≤ value m
    → parse_from least (line_of m k d r) ≡ before (trip (value m) (value k) d) (parse_from (value m + 1) r)
line-parsed least m k d r t rises =
    let s = line_of m k d r in
    let trip-is = line-trip m k d r t in
    let some : 0 < length s = omega (arith, length-append m (comma ∷ k ++ (comma ∷ d ++ (LF ∷ r)))) in
    let up : least ≤ (first_trip s).minute = rw trip-is rises in
    from_next least s some (line_has m k d r t) up ∙ rw (trip-is, line-rest m k d r t)

-- the first line, and the rest
pub record FirstEntry (least : ℕ) (e : Entry) (es : List Entry) : Type 0 where
  pub three : Three e.minute e.metres e.driver
  pub rises : least ≤ value e.minute
  pub rest : entries_from (value e.minute + 1) es ≡ true

pub first_entry : (least : ℕ) (e : Entry) (es : List Entry) → entries_from least (e ∷ es) ≡ true → FirstEntry least e es
first_entry least e es q =
    let a = is_number e.minute in
    let b = is_number e.metres in
    let c = is_driver e.driver in
    let l = leb least (value e.minute) in
    let rest = entries_from (value e.minute + 1) es in
    let q1 = and_right a (b && (c && (l && rest))) q in
    let q2 = and_right b (c && (l && rest)) q1 in
    let q3 = and_right c (l && rest) q2 in
    record {
      three = record { minute = and_left a (b && (c && (l && rest))) q; metres = and_left b (c && (l && rest)) q1; driver = and_left c (l && rest) q2 };
      rises = leb-true _ _ (and_left l rest q3);
      rest = and_right l rest q3;
    }

pub entries_accepted : (least : ℕ) (es : List Entry) → entries_from least es ≡ true → parse_from least (lines_of es) ≡ trips (map entry_trip es)
entries_accepted least [] q = from_end least [] (omega arith)
entries_accepted least (e ∷ es) q =
    let f = first_entry least e es q in
    line-parsed least e.minute e.metres e.driver (lines_of es) f.three f.rises
    ∙ ap (before (entry_trip e)) (entries_accepted (value e.minute + 1) es f.rest)

-- an accepted list, by its texts
pub record Entries (least : ℕ) (s : List ℕ) (ts : List Trip) : Type 0 where
  pub entries : List Entry
  pub form : entries_from least entries ≡ true
  pub whole : s ≡ lines_of entries
  pub meaning : map entry_trip entries ≡ ts

pub no_bytes : (s : List ℕ) → length s ≡ 0 → s ≡ []
no_bytes [] h = refl
no_bytes (x ∷ xs) h = absurd (omega arith)

pub accepted_entries : (least : ℕ) (s : List ℕ) (ts : List Trip) → parse_from least s ≡ trips ts → Entries least s ts
unfolding first_trip trip_of
accepted_entries least s [] q = record { entries = []; form = refl; whole = no_bytes s (parsed-none least s q); meaning = refl }
accepted_entries least s (t ∷ ts) q =
    let f = parsed-first least s t ts q in
    let x = texts s f.form in
    let r = accepted_entries (t.minute + 1) (drop (line_length s) s) ts f.rest in
    let e : Entry = record { minute = minute_of s; metres = metres_of s; driver = driver_of s } in
    let n : value (minute_of s) ≡ t.minute = ap (λ (u : Trip). u.minute) f.trip in
    let rises : least ≤ value (minute_of s) = omega (arith, f.rises) in
    record {
      entries = e ∷ r.entries;
      form = rw (x.three.minute, x.three.metres, x.three.driver, le-leb _ _ rises, n) r.form;
      whole = x.whole ∙ ap (λ (l : List ℕ). line_of (minute_of s) (metres_of s) (driver_of s) l) r.whole;
      meaning = ap (λ (u : Trip). u ∷ map entry_trip r.entries) f.trip ∙ ap (λ (us : List Trip). t ∷ us) r.meaning;
    }

-- ---- what is spelled is parsed again

pub record Limits (t : Trip) : Type 0 where
  pub minute : t.minute ≤ greatest_number
  pub metres : t.metres ≤ greatest_number
  pub driver : is_driver t.driver ≡ true

limits : (t : Trip) → in_limits t ≡ true → Limits t
unfolding in_limits
limits t e =
    let at = all_of_at (leb t.minute greatest_number ∷ leb t.metres greatest_number ∷ is_driver t.driver ∷ []) e in
    record { minute = leb-true _ _ (at 0); metres = leb-true _ _ (at 1); driver = at 2 }

pub number_spelled : (n : ℕ) → n ≤ greatest_number → is_number (decimal n) ≡ true
number_spelled n h = decimal_numeral 10 greatest_number n (omega arith) (omega arith) h

-- the first of valid trips, and the rest
pub record FirstValid (least : ℕ) (t : Trip) (ts : List Trip) : Type 0 where
  pub rises : least ≤ t.minute
  pub limits : Limits t
  pub rest : valid_from (t.minute + 1) ts ≡ true

pub first-valid : (least : ℕ) (t : Trip) (ts : List Trip) → valid_from least (t ∷ ts) ≡ true → FirstValid least t ts
first-valid least t ts e =
    let a = leb least t.minute in
    let rest = valid_from (t.minute + 1) ts in
    let later = and_right a (in_limits t && rest) e in
    record { rises = leb-true _ _ (and_left a (in_limits t && rest) e); limits = limits t (and_left (in_limits t) rest later); rest = and_right (in_limits t) rest later }

pub spell-line : (t : Trip) (r : List ℕ) → spell_trip t ++ r ≡ line_of (decimal t.minute) (decimal t.metres) t.driver r
unfolding spell_trip
spell-line t r = simp append_assoc

spelled-parsed : (least : ℕ) (ts : List Trip) → valid_from least ts ≡ true → parse_from least (spell ts) ≡ trips ts
spelled-parsed least [] e = from_end least [] (omega arith)
spelled-parsed least (t ∷ ts) e =
    let f = first-valid least t ts e in
    let m = decimal t.minute in
    let k = decimal t.metres in
    let three : Three m k t.driver =
    record { minute = number_spelled t.minute f.limits.minute; metres = number_spelled t.metres f.limits.metres; driver = f.limits.driver } in
    let vm : value m ≡ t.minute = value-decimal t.minute in
    let vk : value k ≡ t.metres = value-decimal t.metres in
    let rises : least ≤ value m = omega (arith, f.rises) in
    ap (parse_from least) (spell-line t (spell ts))
    ∙ line-parsed least m k t.driver (spell ts) three rises
    ∙ rw (vm, vk) (ap (before t) (spelled-parsed (t.minute + 1) ts f.rest))

pub parse-spell : (ts : List Trip) → valid ts ≡ true → parse (spell ts) ≡ trips ts
unfolding parse
parse-spell ts e = spelled-parsed 0 ts e

-- and so it is accepted where it fits
pub spell_accepted : (ts : List Trip) → valid ts ≡ true → length (spell ts) ≤ greatest_list → list_answer (spell ts) ≡ done (length ts)
spell_accepted ts e fits = sym (list-parsed (spell ts) fits) ∙ ap answer_of (parse-spell ts e)

-- no two lists of such trips are spelled alike
pub spell_injective : (a b : List Trip) → valid a ≡ true → valid b ≡ true → spell a ≡ spell b → a ≡ b
spell_injective a b e f q = ap trips_of (sym (parse-spell a e) ∙ ap parse q ∙ parse-spell b f)

-- ---- what is parsed is within its limits

first-limits : (s : List ℕ) → has_line s ≡ true → in_limits (first_trip s) ≡ true
unfolding in_limits first_trip trip_of
first-limits s e =
    let x = (texts s e).three in
    rw (le-leb _ _ (number_small (minute_of s) x.minute), le-leb _ _ (number_small (metres_of s) x.metres), x.driver)

pub parsed-valid : (least : ℕ) (s : List ℕ) (ts : List Trip) → parse_from least s ≡ trips ts → valid_from least ts ≡ true
parsed-valid least s [] q = refl
parsed-valid least s (t ∷ ts) q =
    let f = parsed-first least s t ts q in
    let l : in_limits t ≡ true = ap in_limits (sym f.trip) ∙ first-limits s f.form in
    rw (le-leb _ _ f.rises, l) (parsed-valid (t.minute + 1) (drop (line_length s) s) ts f.rest)

valid_of : (p : Parsed) → ((ts : List Trip) → p ≡ trips ts → valid ts ≡ true) → valid (trips_of p) ≡ true
valid_of (trips ts) h = h ts refl
valid_of (refusal a) h = refl

-- minutes rise: each is above those before it
valid_from_lem : (n : ℕ) (ts : List Trip) (d : Trip) → valid_from n ts ≡ true → (j : ℕ) → j < length ts → n ≤ (get_or ts j d).minute
valid_from_lem n [] d e j h = absurd (not-suc-le-zero h)
valid_from_lem n (t ∷ ts) d e zero h = (first-valid n t ts e).rises
valid_from_lem n (t ∷ ts) d e (suc j) h =
    let f = first-valid n t ts e in
    omega (arith, f.rises, valid_from_lem (t.minute + 1) ts d f.rest j (le_of_suc-le-suc h))

pub minutes_rise : (n : ℕ) (ts : List Trip) (d : Trip) → valid_from n ts ≡ true → (i j : ℕ) → i < j → j < length ts → (get_or ts i d).minute < (get_or ts j d).minute
minutes_rise n [] d e i j h l = absurd (not-suc-le-zero l)
minutes_rise n (t ∷ ts) d e i zero h l = absurd (not-suc-le-zero h)
minutes_rise n (t ∷ ts) d e zero (suc j) h l = omega (arith, valid_from_lem (t.minute + 1) ts d (first-valid n t ts e).rest j (le_of_suc-le-suc l))
minutes_rise n (t ∷ ts) d e (suc i) (suc j) h l =
    minutes_rise (t.minute + 1) ts d (first-valid n t ts e).rest i j (le_of_suc-le-suc h) (le_of_suc-le-suc l)

-- ---- a spelling is never longer than what was read, and where it is as long it is the same

parsed-shorter : (least : ℕ) (s : List ℕ) (ts : List Trip) → parse_from least s ≡ trips ts → length (spell ts) ≤ length s
parsed-shorter least s [] q = omega arith
parsed-shorter least s (t ∷ ts) q =
    let f = parsed-first least s t ts q in
    let rest = drop (line_length s) s in
    omega (
      arith,
      length-append (spell_trip t) (spell ts),
      spell-shorter s f.form,
      ap (λ (u : Trip). length (spell_trip u)) f.trip,
      parsed-shorter (t.minute + 1) rest ts f.rest,
      length-drop (line_length s) s,
      line-within s f.form,
    )

parsed_same : (least : ℕ) (s : List ℕ) (ts : List Trip) → parse_from least s ≡ trips ts → length (spell ts) ≡ length s → spell ts ≡ s
parsed_same least s [] q e = sym (no_bytes s (sym e))
parsed_same least s (t ∷ ts) q e =
    let f = parsed-first least s t ts q in
    let n = line_length s in
    let rest = drop n s in
    let u : length (spell_trip (first_trip s)) ≡ length (spell_trip t) = ap (λ (v : Trip). length (spell_trip v)) f.trip in
    let l = length-append (spell_trip t) (spell ts) in
    let a = spell-shorter s f.form in
    let b = parsed-shorter (t.minute + 1) rest ts f.rest in
    let c = length-drop n s in
    let d = line-within s f.form in
    let first : length (spell_trip (first_trip s)) ≡ n = omega (arith, e, l, u, a, b, c, d) in
    let later : length (spell ts) ≡ length rest = omega (arith, e, l, u, a, b, c, d) in
    ap (λ (v : Trip). spell_trip v ++ spell ts) (sym f.trip)
    ∙ rw (spell_same s f.form first, parsed_same (t.minute + 1) rest ts f.rest later) (take-append-drop n s)

shorter_of : (p : Parsed) (n : ℕ) → ((ts : List Trip) → p ≡ trips ts → length (spell ts) ≤ n) → length (spell (trips_of p)) ≤ n
shorter_of (trips ts) n h = h ts refl
shorter_of (refusal a) n h = omega arith

module _ (list : List ℕ) where
  -- the trips of a list are within their limits, with rising minutes
  pub trips-valid : valid (trips_of (parse list)) ≡ true
  unfolding parse
  trips-valid = valid_of (parse_from 0 list) (parsed-valid 0 list)

  -- what is written is never longer than the list
  pub never_longer : length (spelling list) ≤ length list
  unfolding parse
  never_longer = shorter_of (parse_from 0 list) (length list) (parsed-shorter 0 list)

  -- a list as long as its spelling is its spelling
  pub unchanged : Accepted list → length (spelling list) ≡ length list → spelling list ≡ list
  unfolding parse
  unchanged a e = parsed_same 0 list (trips_of (parse_from 0 list)) a e

  -- what is written is parsed as the trips of the list, and is written as it stands
  pub parsed_again : parse (spelling list) ≡ trips (trips_of (parse list))
  parsed_again = parse-spell (trips_of (parse list)) trips-valid

  pub written_again : spelling (spelling list) ≡ spelling list
  written_again = ap (λ (p : Parsed). spell (trips_of p)) parsed_again

  -- what is written of an accepted list is accepted, with the same count
  pub accepted_again : (n : ℕ) → list_answer list ≡ done n → list_answer (spelling list) ≡ done n
  accepted_again n e =
      let short : length (spelling list) ≤ greatest_list = omega (arith, never_longer, accepted_short list n e) in
      spell_accepted (trips_of (parse list)) trips-valid short ∙ ap done (accepted_trips list n e)

-- ---- the same trips exactly where the same bytes are written

-- the bytes that the writer puts at the front of a buffer
abbrev pub output : List ℕ → List ℕ → List ℕ
output list buffer = take (write_answer list buffer).count (written list buffer)

pub output-spelled : (list buffer : List ℕ) (n : ℕ) → list_answer list ≡ done n → length buffer ≡ greatest_list → output list buffer ≡ spelling list
unfolding write_answer written
output-spelled list buffer n e h =
    let w = spelling list in
    let fits : 0 + length w ≤ length buffer = omega (arith, never_longer list, accepted_short list n e) in
    rw (eq-eqb _ _ h, e) (rw (overwrite-cut buffer 0 w fits) (take_at w _ (length w) refl))

module _ (x y b c : List ℕ) (n m : ℕ) (ex : list_answer x ≡ done n) (ey : list_answer y ≡ done m) (hb : length b ≡ greatest_list) (hc : length c ≡ greatest_list) where
  pub same_trips-same_bytes : trips_of (parse x) ≡ trips_of (parse y) → output x b ≡ output y c
  same_trips-same_bytes q = output-spelled x b n ex hb ∙ ap spell q ∙ sym (output-spelled y c m ey hc)

  pub same_bytes_same_trips : output x b ≡ output y c → trips_of (parse x) ≡ trips_of (parse y)
  same_bytes_same_trips q =
      spell_injective (trips_of (parse x)) (trips_of (parse y)) (trips-valid x) (trips-valid y)
      (sym (output-spelled x b n ex hb) ∙ q ∙ output-spelled y c m ey hc)
