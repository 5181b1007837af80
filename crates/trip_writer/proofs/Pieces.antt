-- The bytes of a line that its spelling keeps, and how they are laid down.
use mathlib.Core.Path.{◌≡◌, sym, ap, ◌∙◌}
use mathlib.Core.List.{List, [], ◌∷◌, ◌++◌, append_assoc}
use Prim.Native.Nat.{ℕ, zero, suc, ◌+◌, ◌-◌, ◌*◌, ◌≤◌, ◌<◌, min}
use native.Mathlib.Omega.{arith}
use lib.ListN.{length, take, drop, length-drop}
use borrow.Table.Steps.{cases}
use Rattle.std.specs.List.{prefix_len}
use Rattle.memory.proofs.Cases.{split_lt}
use Rattle.text.specs.Decimal.{is_zero}
use Rattle.text.specs.Runs.{run}
use Rattle.words.specs.Words.{first_eight}
use Rattle.text.proofs.Decimal.{ZerosTo, zeros-none}
use Rattle.trip_list.proofs.Runs.{zeros-first}
use Rattle.std.proofs.lemmas.Slice.{between_is}
use Rattle.std.proofs.lemmas.List.{length-take}
use Rattle.std.proofs.lemmas.List.Sums.{prefix_len-le-length}
use lib.Seq.{take-take, take_at, drop-drop}
use Rattle.memory.specs.Bytes.{part, overwrite}
use Rattle.memory.proofs.Bytes.{length_front, length-overwrite, take-overwrite}
use Rattle.text.specs.Decimal.{leading_zeros}
use Rattle.text.specs.Marks.{comma}
use Rattle.trip_list.specs.declared.Line as line
use Rattle.trip_list.specs.Lines.{line_length}
use Rattle.trip_list.specs.Scanner.{greatest_line, LineAt}
use Rattle.trip_list.proofs.Lines.{after_mark, minute_of, metres_of, texts}
use Rattle.trip_list.proofs.Spelling.{minute-zeros, metres-zeros, minute_zeros, metres_zeros, parts-length, spell-shorter, kept-parts}
use Rattle.trip_list.proofs.Stepping.{driver_start_lem, line-inside, length-fits}
use Rattle.trip_writer.specs.declared.Kept as kept
use Rattle.trip_writer.specs.Spelling.{spelled_line, KeptAt}

-- ---- leading zeros

zeros_are : (ds : List ℕ) (n : ℕ) → n ≡ length ds - 1 → leading_zeros ds ≡ prefix_len is_zero (take n ds)
zeros_are [] n e = let z : n ≡ 0 = omega arith in rw z
zeros_are (c ∷ []) n e = let z : n ≡ 0 = omega arith in rw z
zeros_are (c ∷ d ∷ ds) zero e = absurd (omega arith)
zeros_are (c ∷ d ∷ ds) (suc n) e = cases (is_zero c) (λ q. rw (q, zeros_are (d ∷ ds) n (omega arith)) (omega arith)) (λ q. rw q)

pub zeros-within : (n count : ℕ) (ds : List ℕ) → count ≡ prefix_len is_zero (take n ds) → count ≤ n
zeros-within n count ds e = omega (arith, e, prefix_len-le-length is_zero (take n ds), length-take n ds)

-- some zeros, and those that are counted after them
pub zeros-counted : (s : List ℕ) (digits last z first count : ℕ) → digits ≤ length s → last ≡ digits - 1 → z ≡ run is_zero (first_eight s) → first ≡ min z last
    → count ≡ prefix_len is_zero (take (last - first) (drop first s)) → first + count ≡ leading_zeros (take digits s)
zeros-counted s digits last z first count h el ez ef ec =
    let ds = take digits s in
    let to : ZerosTo ds first =
    split_lt digits 2
    (λ few. let none : first ≡ 0 = omega arith in rw none (zeros-none ds))
    (λ some. zeros-first s digits z first ez (omega arith) some h) in
    let rest : drop first ds ≡ take (digits - first) (drop first s) = sym (between_is s first digits) in
    let n : last - first ≡ length (drop first ds) - 1 = omega (arith, length-drop first ds, length_front digits s h) in
    let more : leading_zeros (drop first ds) ≡ count = zeros_are (drop first ds) (last - first) n ∙ ap (prefix_len is_zero) (ap (take (last - first)) rest ∙ take-take (last - first) (digits - first) (drop first s) (omega arith)) ∙ sym ec in
    omega (arith, to.so_far, more)

-- m elements of a list, as far as it has them, were laid over xs from `end` on: so the first n of them stand there
put_more : (list xs : List ℕ) (first end n m : ℕ) → n ≤ m → first + n ≤ length list → end + n ≤ length xs
    → take (end + n) (overwrite xs end (part list first m)) ≡ take end xs ++ part list first n
put_more list xs first end n m h k l =
    let z : n ≤ length (part list first m) = omega (arith, length-take m (drop first list), length-drop first list) in
    take-overwrite xs end (part list first m) n l z ∙ ap (λ (o : List ℕ). take end xs ++ o) (take-take n m (drop first list) h)

-- ---- where the kept bytes lie

module _ (list : List ℕ) (at : ℕ) (l : line.Line) (a : LineAt list at l) where
  abbrev s : List ℕ
  s = drop at list

  minute-first : take (l.second - 1) s ≡ minute_of s
  minute-first =
      ap (take (l.second - 1)) (texts s a.form).whole
      ∙ take_at (minute_of s) _ (l.second - 1) (omega (arith, a.read.second))

  metres-next : take (l.driver - l.second - 1) (drop (at + l.second) list) ≡ metres_of s
  metres-next =
      let t = texts s a.form in
      let n = l.driver - l.second - 1 in
      ap (take n)
      (sym (drop-drop l.second at list)
      ∙ ap (λ (i : ℕ). drop i s) a.read.second
      ∙ ap (drop (length (minute_of s) + 1)) t.whole
      ∙ after_mark (minute_of s) comma _)
      ∙ take_at (metres_of s) _ n (omega (arith, a.read.second, a.read.driver, driver_start_lem s a.form))

  pub spelled-shorter : length (spelled_line list at) ≤ l.length
  unfolding spelled_line
  spelled-shorter = omega (arith, spell-shorter s a.form, a.read.size)

  -- the numbers and their marks lie within the line
  pub fields-inside : (1 ≤ l.second) × (l.second < l.driver) × (l.driver ≤ l.length)
  fields-inside = omega (arith, a.read.second, a.read.driver, a.read.size, driver_start_lem s a.form, parts-length s a.form)

  module _ (u : List ℕ) (w : u ≡ drop at list) (x : ℕ) (e : x ≡ leading_zeros (take (l.second - 1) u)) where
    minute-counted : x ≡ minute_zeros s a.form
    minute-counted = e ∙ ap leading_zeros (ap (take (l.second - 1)) w ∙ minute-first)

    pub minute-counts : x < l.second
    minute-counts = omega (arith, minute-counted, minute-zeros s a.form, a.read.second)

    module _ (v : List ℕ) (o : v ≡ drop (at + l.second) list) (y : ℕ) (f : y ≡ leading_zeros (take (l.driver - l.second - 1) v)) where
      metres-counted : y ≡ metres_zeros s a.form
      metres-counted = f ∙ ap leading_zeros (ap (take (l.driver - l.second - 1)) o ∙ metres-next)

      pub metres-counts : l.second + y < l.driver
      metres-counts = omega (arith, metres-counted, metres-zeros s a.form, a.read.second, a.read.driver, driver_start_lem s a.form)

      pub kept-found : KeptAt list at (record { minute = at + x; metres = at + l.second + y })
      kept-found = record { minute = ap (λ (i : ℕ). at + i) minute-counted; metres = omega (arith, metres-counted, a.read.second) }

  piece : (x y n k : ℕ) → x ≡ at + y → n ≡ k → part list x n ≡ part s y k
  piece x y n k e q = ap (λ (i : ℕ). part list i n) e ∙ ap (λ (i : ℕ). part list (at + y) i) q ∙ ap (take k) (sym (drop-drop y at list))

  module _ (k : kept.Kept) (z : KeptAt list at k) where
    -- the kept digits of the minute, the metres, their kept digits, the end
    pub first-second : k.minute ≤ at + l.second
    first-second = omega (arith, z.minute, a.read.second, minute-zeros s a.form)

    pub second_third : at + l.second ≤ k.metres
    second_third = omega (arith, z.metres, a.read.second)

    pub third_end : k.metres ≤ at + l.length
    third_end = omega (arith, z.metres, a.read.size, metres-zeros s a.form, parts-length s a.form)

    -- the pieces stand in order, within the list
    pub in_order : (k.minute ≤ at + l.second) × (at + l.second ≤ k.metres) × (k.metres ≤ at + l.length)
        × (at + l.length ≤ length list) × (l.length ≤ greatest_line)
    in_order = (first-second, second_third, third_end, line-inside list at l a, length-fits list at l a)

    pub spelled-length : at + l.second - k.minute + (at + l.length - k.metres) ≡ length (spelled_line list at)
    unfolding spelled_line
    spelled-length =
        omega (arith, spell-shorter s a.form, z.minute, z.metres, a.read.second, a.read.size, minute-zeros s a.form, third_end)

    kept_at : part list k.minute (at + l.second - k.minute) ++ part list k.metres (at + l.length - k.metres) ≡ spelled_line list at
    unfolding spelled_line
    kept_at =
        let m = length (minute_of s) + 1 in
        let f = minute_zeros s a.form in
        let g = m + metres_zeros s a.form in
        let n : at + l.second - k.minute ≡ m - f = omega (arith, z.minute, a.read.second) in
        let o : at + l.length - k.metres ≡ line_length s - g = omega (arith, z.metres, a.read.size) in
        ap (λ (x : List ℕ). x ++ part list k.metres (at + l.length - k.metres)) (piece k.minute f _ (m - f) z.minute n)
        ∙ ap (λ (x : List ℕ). part s f (m - f) ++ x) (piece k.metres g _ (line_length s - g) (omega (arith, z.metres)) o)
        ∙ kept-parts s a.form

    -- as the code lays them: each piece, with bytes after it
    pub put_pieces : (xs : List ℕ) (end : ℕ) → end + 2 * greatest_line ≤ length xs → (ys zs : List ℕ) → ys ≡ overwrite xs end (part list k.minute greatest_line)
        → zs ≡ overwrite ys (end + (at + l.second - k.minute)) (part list k.metres greatest_line)
        → take (end + (at + l.second - k.minute) + (at + l.length - k.metres)) zs ≡ take end xs ++ spelled_line list at
    put_pieces xs end room ys zs ey ez =
        let i = at + l.second - k.minute in
        let j = at + l.length - k.metres in
        let q = part list k.metres j in
        let o = in_order in
        let w : length ys ≡ length xs = ap length ey ∙ length-overwrite xs end _ in
        ap (take (end + i + j)) ez
        ∙ put_more list ys k.metres (end + i) j greatest_line (omega (arith, o, z.minute)) (omega (arith, o)) (omega (arith, o, z.minute, w))
        ∙ ap (λ (o : List ℕ). take (end + i) o ++ q) ey
        ∙ ap (λ (o : List ℕ). o ++ q) (put_more list xs k.minute end i greatest_line (omega (arith, o, z.minute)) (omega (arith, o, z.minute)) (omega (arith, o, z.minute)))
        ∙ append_assoc (take end xs) (part list k.minute i) q
        ∙ ap (λ (o : List ℕ). take end xs ++ o) kept_at
