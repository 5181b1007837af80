-- A line at an index of a list: what the code is told of it.
use Rattle.std.proofs.Common.{◌≡◌, ℕ, ◌+◌, ◌<◌, ◌≤◌, true, false, leb, List, Bor, Option, Some, None, MatchOption, ⊎_elim, Result, Ok, Err, length, get_or, drop, sym, refl, ap, ◌∙◌, arith, length-drop, drop_of_length-le, le-leb, leb-false, leb-true}
use borrow.Author.Tests.{lt-leb}
use borrow.Table.Steps.{cases}
use Rattle.answer.specs.Coded.{coded_refusal}
use Rattle.answer.specs.declared.Refusal.{Refusal}
use Rattle.answer.specs.declared.Refusal.TheVariants.{TripForm, TripOrder}
use Rattle.std.specs.Slice.{IsGetRangeResult}
use Rattle.memory.proofs.Bytes.{rest-whole}
use Rattle.trip_list.proofs.Runs.{nothing_read}
use Rattle.trip_list.specs.declared.Line as line
use Rattle.trip_list.specs.Trip.{greatest_number, trip_of}
use Rattle.trip_list.specs.Lines.{first_line, has_line, first_trip, line_length, driver_start}
use Rattle.trip_list.specs.Steps.{Told, told, line_of_front, line_given}
use Rattle.trip_list.specs.Scanner.{LineFields, LineRead, greatest_line, LineAt, Stopped, trip_at}
use Rattle.trip_list.proofs.Lines.{number_small, minute_of, metres_of, driver_of, texts, line-driver}
use Rattle.trip_list.proofs.Parsing.{line_some, line-within, from-malformed, from_falling}
use Rattle.trip_list.proofs.Spelling.{parts-length, line-short}

-- ---- the line that was found

-- what is found in the rest of a list, or in no bytes where the index is past its end
pub line_from : (list : List ℕ) (at : ℕ) (rest : Option (Bor (List ℕ))) (r : Option line.Line) → IsGetRangeResult list at (length list) rest
    → MatchOption rest (r ≡ None) (λ x. LineRead x.now r) → LineRead (drop at list) r
unfolding has_line first_line
line_from list at None r g e =
    let over : length list ≤ at = ⊎_elim (λ h. omega arith) (λ h. omega arith) g.0 in
    rw (e, drop_of_length-le list over) (nothing_read refl)
line_from list at (Some x) r g e = rw (← rest-whole at list, ← g.0.2) e

module _ (list : List ℕ) (at least : ℕ) where
  abbrev t : List ℕ
  t = drop at list

  is_line : has_line t ≡ true → leb least (first_trip t).minute ≡ true → line_given list at least ≡ told (Ok (line_of_front t))
  unfolding line_given line_of_front
  is_line f h = rw (f, h)

  is_low : has_line t ≡ true → leb least (first_trip t).minute ≡ false → line_given list at least ≡ told (Err TripOrder)
  unfolding line_given
  is_low f h = rw (f, h)

  is_none : has_line t ≡ false → line_given list at least ≡ told (Err TripForm)
  unfolding line_given
  is_none f = rw f

  -- to the code: each case of the line there
  pub given-none : LineRead t None → told (Err TripForm) ≡ line_given list at least
  given-none r = sym (is_none (sym r.told))

  module _ (l : line.Line) (r : LineRead t (Some l)) where
    pub given-low : l.minute < least → told (Err TripOrder) ≡ line_given list at least
    given-low h =
        let below : (first_trip t).minute < least = omega (arith, r.read.minute) in
        sym (is_low (sym r.told) (lt-leb _ _ below))

    front_is : l ≡ line_of_front t
    unfolding line_of_front
    front_is = let f = r.read in rw (← f.minute, ← f.metres, ← f.second, ← f.driver, ← f.letters, ← f.size)

    pub given-line : least ≤ l.minute → told (Ok l) ≡ line_given list at least
    given-line h =
        let up : least ≤ (first_trip t).minute = omega (arith, r.read.minute) in
        ap (λ (m : line.Line). told (Ok m)) front_is ∙ sym (is_line (sym r.told) (le-leb _ _ up))

  -- from the code: what each case says
  front_read : LineFields t (line_of_front t)
  unfolding line_of_front
  front_read = record { minute = refl; metres = refl; second = refl; driver = refl; letters = refl; size = refl }

  -- one line is not none
  line-none : {A : Type 0} (l : line.Line) (x : Refusal) → told (Ok l) ≡ told (Err x) → A
  line-none l x e = let z : ◌≡◌ {A = ℕ} 1 0 = ap (λ (g : Told). length g.line) e in absurd (omega arith)

  module _ (r : Result line.Line Refusal) (e : told r ≡ line_given list at least) where
    pub step_line : (l : line.Line) → r ≡ Ok l → LineAt list at l × (least ≤ l.minute)
    step_line l q =
        let g : told (Ok l) ≡ line_given list at least = ap told (sym q) ∙ e in
        cases (has_line t)
        (λ f. cases (leb least (first_trip t).minute)
        (λ h.
        let same : l ≡ line_of_front t = ap (λ (o : Told). get_or o.line 0 l) (g ∙ is_line f h) in
        let fields : LineFields t l = rw same front_read in
        (record { form = f; read = fields }, omega (arith, leb-true least (first_trip t).minute h, fields.minute)))
        (λ h. line-none l TripOrder (g ∙ is_low f h)))
        (λ f. line-none l TripForm (g ∙ is_none f))

    pub step-refused : at < length list → (x : Refusal) → r ≡ Err x → Stopped least t (coded_refusal x)
    step-refused inside x q =
        let g : told (Err x) ≡ line_given list at least = ap told (sym q) ∙ e in
        let some : 0 < length t = omega (arith, length-drop at list) in
        cases (has_line t)
        (λ f. cases (leb least (first_trip t).minute)
        (λ h. line-none (line_of_front t) x (sym (g ∙ is_line f h)))
        (λ h. rw (ap (λ (y : Told). y.answer) (g ∙ is_low f h)) (record { told = λ o. rw (f, h); parsed = from_falling least t some f (leb-false _ _ h) })))
        (λ f. rw (ap (λ (y : Told). y.answer) (g ∙ is_none f)) (record { told = λ o. rw f; parsed = from-malformed least t some f }))

-- ---- its numbers fit

first-driver : (s : List ℕ) → length (first_trip s).driver ≡ length (driver_of s)
unfolding first_trip trip_of
first-driver s = refl

pub first_small : (s : List ℕ) → has_line s ≡ true → ((first_trip s).minute ≤ greatest_number) × ((first_trip s).metres ≤ greatest_number)
unfolding first_trip trip_of
first_small s e = let t = (texts s e).three in (number_small (minute_of s) t.minute, number_small (metres_of s) t.metres)

pub driver_start_lem : (s : List ℕ) → has_line s ≡ true → driver_start s ≡ length (minute_of s) + 1 + (length (metres_of s) + 1)
driver_start_lem s e = let t = texts s e in ap driver_start t.whole ∙ line-driver (minute_of s) (metres_of s) (driver_of s) _ t.three

-- the driver ends before the LF
pub driver-within : (s : List ℕ) → has_line s ≡ true → driver_start s + length (first_trip s).driver < line_length s
driver-within s e = omega (arith, driver_start_lem s e, parts-length s e, first-driver s)

-- ---- where its parts lie

module _ (list : List ℕ) (at : ℕ) (l : line.Line) (a : LineAt list at l) where
  abbrev s : List ℕ
  s = drop at list

  pub line-inside : at + l.length ≤ length list
  line-inside = omega (arith, line_some s, line-within s a.form, a.read.size, length-drop at list)

  pub length-fits : l.length ≤ greatest_line
  length-fits = omega (arith, line-short s a.form, a.read.size)

  pub minute-fits : l.minute ≤ greatest_number
  minute-fits = omega (arith, (first_small s a.form).0, a.read.minute)

  pub metres-fits : l.metres ≤ greatest_number
  metres-fits = omega (arith, (first_small s a.form).1, a.read.metres)

  pub driver-inside : at + l.driver + l.letters ≤ length list
  driver-inside = omega (arith, driver-within s a.form, a.read.driver, a.read.letters, a.read.size, line-inside)

  pub trip-found : record { minute = l.minute; metres = l.metres; driver = at + l.driver; letters = l.letters } ≡ trip_at list at
  unfolding trip_at
  trip-found = rw (a.read.minute, a.read.metres, a.read.driver, a.read.letters)
