-- Laws of the one spelling of a line: it is the line without the zeros before its numbers.
use Rattle.std.proofs.Common.{◌≡◌, ℕ, ◌+◌, ◌-◌, ◌<◌, ◌≤◌, true, List, [], ◌∷◌, ◌++◌, length, take, drop, sym, ap, ◌∙◌, append_assoc, arith, length-append, length-drop, drop-drop, take_at}
use lib.Seq.{drop-append-le, drop-append-add}
use Rattle.memory.specs.Bytes.{part}
use Rattle.text.specs.Decimal.{value, decimal, leading_zeros}
use Rattle.text.specs.Marks.{LF, comma}
use Rattle.text.proofs.Decimal.{numeral, decimal-value, zeros-below}
use Rattle.trip_list.specs.Trip.{greatest_number, is_number, trip_of, spell_trip}
use Rattle.trip_list.specs.Lines.{has_line, first_trip, line_length}
use Rattle.trip_list.specs.Scanner.{greatest_line}
use Rattle.trip_list.proofs.Lines.{driver-few, number-few, minute_of, metres_of, driver_of, Texts, texts, line_length_lem}

-- a number read and printed keeps its digits past the zeros
number-kept : (m : List ℕ) → is_number m ≡ true → decimal (value m) ≡ drop (leading_zeros m) m
number-kept m e = let n = numeral 10 greatest_number m e in decimal-value m n.some n.digits

number-zeros : (m : List ℕ) → is_number m ≡ true → leading_zeros m < length m
number-zeros m e = zeros-below m (numeral 10 greatest_number m e).some

module _ (s : List ℕ) (form : has_line s ≡ true) where
  t : Texts s
  t = texts s form

  abbrev m : List ℕ
  m = minute_of s

  abbrev k : List ℕ
  k = metres_of s

  abbrev d : List ℕ
  d = driver_of s

  abbrev pub minute_zeros : ℕ
  minute_zeros = leading_zeros (minute_of s)

  abbrev pub metres_zeros : ℕ
  metres_zeros = leading_zeros (metres_of s)

  abbrev metres_kept : List ℕ
  metres_kept = drop metres_zeros k ++ (comma ∷ d ++ (LF ∷ []))

  pub minute-zeros : minute_zeros < length (minute_of s)
  minute-zeros = number-zeros m t.three.minute

  pub metres-zeros : metres_zeros < length (metres_of s)
  metres-zeros = number-zeros k t.three.metres

  pub parts-length : line_length s ≡ length (minute_of s) + length (metres_of s) + length (driver_of s) + 3
  parts-length = ap line_length t.whole ∙ line_length_lem m k d _ t.three

  pub line-short : line_length s ≤ greatest_line
  line-short = omega (arith, parts-length, number-few m t.three.minute, number-few k t.three.metres, driver-few d t.three.driver)

  spell-kept : spell_trip (first_trip s) ≡ drop minute_zeros m ++ (comma ∷ metres_kept)
  unfolding spell_trip first_trip trip_of
  spell-kept = rw (number-kept m t.three.minute, number-kept k t.three.metres)

  kept-length : length metres_kept ≡ length k - metres_zeros + length d + 2
  kept-length = simp (length-append, length-drop) (omega arith)

  -- how much longer the line is than its spelling
  pub spell-shorter : minute_zeros + metres_zeros + length (spell_trip (first_trip s)) ≡ line_length s
  spell-shorter =
      rw spell-kept
      (omega
      (arith, length-append (drop minute_zeros m) (comma ∷ metres_kept), length-drop minute_zeros m, kept-length, minute-zeros, metres-zeros, parts-length))

  -- ---- the two parts of the line that the spelling keeps

  minute-part : part s minute_zeros (length m + 1 - minute_zeros) ≡ drop minute_zeros m ++ (comma ∷ [])
  minute-part =
      let x = k ++ (comma ∷ d ++ (LF ∷ drop (line_length s) s)) in
      let z = minute-zeros in
      let n : length (drop minute_zeros m ++ (comma ∷ [])) ≡ length m + 1 - minute_zeros = simp (length-append, length-drop) (omega arith) in
      ap (λ (l : List ℕ). take (length m + 1 - minute_zeros) (drop minute_zeros l)) t.whole
      ∙ ap (take (length m + 1 - minute_zeros)) (drop-append-le minute_zeros m (comma ∷ x) (omega arith) ∙ sym (append_assoc (drop minute_zeros m) (comma ∷ []) x))
      ∙ take_at (drop minute_zeros m ++ (comma ∷ [])) x (length m + 1 - minute_zeros) n

  metres-part : part s (length m + 1 + metres_zeros) (line_length s - (length m + 1 + metres_zeros)) ≡ metres_kept
  metres-part =
      let r = drop (line_length s) s in
      let x = k ++ (comma ∷ d ++ (LF ∷ r)) in
      let from = length m + 1 + metres_zeros in
      let z = metres-zeros in
      let n : length metres_kept ≡ line_length s - from = omega (arith, kept-length, parts-length) in
      let one : drop (length m + 1) s ≡ x = ap (drop (length m + 1)) t.whole ∙ drop-append-add m (comma ∷ x) 1 in
      let two : drop from s ≡ metres_kept ++ r =
      sym (drop-drop metres_zeros (length m + 1) s)
      ∙ ap (drop metres_zeros) one
      ∙ drop-append-le metres_zeros k (comma ∷ d ++ (LF ∷ r)) (omega arith)
      ∙ simp append_assoc in
      ap (take (line_length s - from)) two ∙ take_at metres_kept r (line_length s - from) n

  pub kept-parts : part s minute_zeros (length (minute_of s) + 1 - minute_zeros) ++ part s (length (minute_of s) + 1 + metres_zeros) (line_length s - (length (minute_of s) + 1 + metres_zeros))
      ≡ spell_trip (first_trip s)
  kept-parts = rw (minute-part, metres-part) (append_assoc (drop minute_zeros m) (comma ∷ []) metres_kept) ∙ sym spell-kept

  -- a line as long as its spelling is its spelling
  pub spell_same : length (spell_trip (first_trip s)) ≡ line_length s → spell_trip (first_trip s) ≡ take (line_length s) s
  spell_same e =
      let a : minute_zeros ≡ 0 = omega (arith, spell-shorter) in
      let b : metres_zeros ≡ 0 = omega (arith, spell-shorter) in
      let r = drop (line_length s) s in
      let line = m ++ (comma ∷ k ++ (comma ∷ d ++ (LF ∷ []))) in
      let whole : s ≡ line ++ r = t.whole ∙ simp append_assoc in
      let n : length line ≡ line_length s = simp length-append (omega (arith, parts-length)) in
      spell-kept ∙ rw (a, b) (sym (ap (take (line_length s)) whole ∙ take_at line r (line_length s) n))
