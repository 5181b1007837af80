-- A word of the first bytes of a text.
use Rattle.std.proofs.Common.{◌≡◌, ℕ, zero, suc, ◌+◌, ◌-◌, ◌*◌, ◌/◌, ◌%◌, ◌^◌, ◌<◌, ◌≤◌, true, List, [], ◌∷◌, ◌++◌, map, length, get_or, take, sym, refl, ap, ◌∙◌, ap₂, mul_assoc, suc-add, pow-suc, zero-add, mul-one, mul-suc, arith, get_or-take, take-take, pow-add, le-leb}
use native.Mathlib.Nat.{pow-zero, div-div-eq-div-mul}
use lib.Bits.{bit_and, and_mask}
use Rattle.memory.proofs.Bytes.{length_front}
use Rattle.memory.specs.Bytes.{zeros}
use Rattle.memory.proofs.Cases.{split_lt}
use Rattle.std.specs.Int.{w64, to_le_bytes, from_le_bytes, bytes_low_first}
use Rattle.std.specs.Array.{IsFirstChunk}
use Rattle.std.proofs.lemmas.Nat.{le_bytes_8}
use lib.ListN.{get_or-eq_default}
use borrow.Author.Tests.{lt-leb}
use Rattle.scan.specs.Scan.{every}
use Rattle.scan.proofs.Scan.{and_left, and_right}
use Rattle.text.specs.Decimal.{is_digit, value_from, value}
use Rattle.text.specs.Runs.{run}
use Rattle.text.proofs.Decimal.{digit_bounds}
use Rattle.text.proofs.Runs.{first-few, first-within, first-every}
use Rattle.words.proofs.Lanes.{wrap_low, wrap_high}
use Rattle.words.specs.Words.{lanes, bytes_of, first_eight, in_base}

-- ---- the lanes of a word

-- the lower lanes
lanes-take : (m n y : ℕ) → m ≤ n → take m (lanes 8 n y) ≡ lanes 8 m y
lanes-take zero n y h = refl
lanes-take (suc m) zero y h = absurd (omega arith)
lanes-take (suc m) (suc n) y h = ap (λ (xs : List ℕ). y % 256 ∷ xs) (lanes-take m n (y / 256) (omega arith))

-- what wraps has no lanes
lanes_mod : (n y : ℕ) → lanes 8 n (y % 256 ^ n) ≡ lanes 8 n y
lanes_mod zero y = refl
lanes_mod (suc n) y = ap₂ ◌∷◌ (wrap_low n y) (ap (lanes 8 n) (wrap_high n y) ∙ lanes_mod n (y / 256))

-- k bytes up
lanes_shift : (k m y : ℕ) → lanes 8 (k + m) (y * 256 ^ k) ≡ zeros k ++ lanes 8 m y
lanes_shift zero m y = rw (zero-add m, pow-zero 256, mul-one y)
lanes_shift (suc k) m y =
    let e : y * 256 ^ suc k ≡ y * 256 ^ k * 256 = ap (λ (x : ℕ). y * x) (pow-suc 256 k) ∙ sym (mul_assoc y (256 ^ k) 256) in
    let f : y * 256 ^ suc k % 256 ≡ 0 = omega (arith, e) in
    let g : y * 256 ^ suc k / 256 ≡ y * 256 ^ k = omega (arith, e) in
    rw (suc-add k m, f, g) (ap (λ (xs : List ℕ). 0 ∷ xs) (lanes_shift k m y))

-- ---- the first eight bytes of a text

bytes_from : (k i n : ℕ) → lanes 8 k (n / 256 ^ suc i) ≡ bytes_low_first (suc i) k n
bytes_from zero i n = refl
bytes_from (suc k) i n =
    let e : n / 256 ^ suc i / 256 ≡ n / 256 ^ suc (suc i) = div-div-eq-div-mul n (256 ^ suc i) 256 ∙ ap (λ (m : ℕ). n / m) (sym (pow-suc 256 (suc i))) in
    ap (λ (xs : List ℕ). n / 256 ^ suc i % 256 ∷ xs) (ap (lanes 8 k) e ∙ bytes_from k (suc i) n)

bytes_of_lem : (n : ℕ) → bytes_of n ≡ to_le_bytes w64 n
unfolding bytes_of
bytes_of_lem n = ap (λ (xs : List ℕ). n % 256 ∷ xs) (bytes_from 7 0 n)

module _ (s : List ℕ) where
  pub no_word : length s < 8 → first_eight s ≡ []
  unfolding first_eight
  no_word h = rw (lt-leb 8 (length s) h)

  eight_first : 8 ≤ length s → first_eight s ≡ take 8 s
  unfolding first_eight
  eight_first h = rw (le-leb 8 (length s) h)

  module _ (word : ℕ) where
    pub word_read : (bs : List ℕ) → IsFirstChunk s bs 8 → ((i : ℕ) → get_or s i 0 < 256) → word ≡ from_le_bytes w64 bs → bytes_of word ≡ first_eight s
    word_read bs c small e =
        let l : length (take 8 s) ≡ 8 = length_front 8 s c.enough in
        let low : (i : ℕ) → get_or (take 8 s) i 0 < 256 =
        λ i. split_lt i 8 (λ h. rw (get_or-take 8 s i 0 h) (small i)) (λ h. let k : length (take 8 s) ≤ i = omega arith in rw (get_or-eq_default (take 8 s) 0 {n = i} k) (omega arith)) in
        bytes_of_lem word ∙ le_bytes_8 (take 8 s) word l low (rw c.same at e) ∙ sym (eight_first c.enough)

    -- where they are a word, there are eight
    module _ (w : bytes_of word ≡ first_eight s) where
      pub word_bytes : bytes_of word ≡ take 8 s
      unfolding bytes_of
      word_bytes = split_lt (length s) 8 (λ h. absurd (omega (arith, ap length w, ap length (no_word h)))) (λ h. w ∙ eight_first h)

-- ---- the value of digits

value-zeros : (k : ℕ) (ds : List ℕ) → in_base 10 0 (map (λ b. bit_and b 15) (zeros k ++ ds)) ≡ in_base 10 0 (map (λ b. bit_and b 15) ds)
value-zeros zero ds = refl
value-zeros (suc k) ds = value-zeros k ds

value-digits : (n : ℕ) (ds : List ℕ) → every is_digit ds ≡ true → in_base 10 n (map (λ b. bit_and b 15) ds) ≡ value_from n ds
value-digits n [] h = refl
value-digits n (c ∷ cs) h =
    let b = digit_bounds c (and_left (is_digit c) (every is_digit cs) h) in
    let e : n * 10 + bit_and c 15 ≡ 10 * n + (c - 48) = omega (arith, b, and_mask c 4) in
    ap (λ (m : ℕ). in_base 10 m (map (λ b. bit_and b 15) cs)) e ∙ (value-digits (10 * n + (c - 48)) cs (and_right (is_digit c) (every is_digit cs) h))

pow_bytes : (k : ℕ) → 2 ^ (8 * k) ≡ 256 ^ k
pow_bytes zero = refl
pow_bytes (suc k) = ap (λ (x : ℕ). 2 ^ x) (mul-suc 8 k) ∙ pow-add 2 (8 * k) 8 ∙ ap (λ (x : ℕ). x * 256) (pow_bytes k) ∙ sym (pow-suc 256 k)

-- so many digits in front, moved to the highest bytes of a word
pub value_in-front : (s : List ℕ) (n word : ℕ) → bytes_of word ≡ take 8 s → n ≡ run is_digit (take 8 s)
    → in_base 10 0 (map (λ b. bit_and b 15) (bytes_of (word * 2 ^ (64 - 8 * n) % 2 ^ 64))) ≡ value (take n s)
unfolding bytes_of
value_in-front s n word w e =
    let m : n ≤ 8 = omega (arith, first-few is_digit 8 s) in
    let q : n ≤ length s = omega (arith, first-within is_digit 8 s) in
    let d : every is_digit (take n s) ≡ true = ap (λ (x : ℕ). every is_digit (take x s)) e ∙ first-every is_digit 8 s in
    let u : 64 - 8 * n ≡ 8 * (8 - n) = omega arith in
    let v : 8 ≡ (8 - n) + n = omega arith in
    let f : lanes 8 8 (word * 2 ^ (64 - 8 * n) % 2 ^ 64) ≡ zeros (8 - n) ++ take n s =
    lanes_mod 8 (word * 2 ^ (64 - 8 * n)) ∙ ap₂ (λ (x y : ℕ). lanes 8 x (word * y)) v (ap (λ (x : ℕ). 2 ^ x) u ∙ pow_bytes (8 - n))
    ∙ lanes_shift (8 - n) n word
    ∙ ap (λ (xs : List ℕ). zeros (8 - n) ++ xs) (sym (lanes-take n 8 word m) ∙ ap (take n) w ∙ take-take n 8 s m) in
    ap (λ (xs : List ℕ). in_base 10 0 (map (λ b. bit_and b 15) xs)) f ∙ value-zeros (8 - n) (take n s) ∙ value-digits 0 (take n s) d
