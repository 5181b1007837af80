-- The value of eight digits: neighbours are joined three times, in all lanes at once.
use Rattle.std.proofs.Common.{◌≡◌, ℕ, zero, suc, ◌+◌, ◌-◌, ◌*◌, ◌/◌, ◌%◌, ◌^◌, ◌<◌, ◌≤◌, Bool, true, leb, List, [], ◌∷◌, map, sym, refl, ap, ◌∙◌, ap₂, lt_of_lt_of_le, le-add_right, add-le-add, mul-le-mul_right, mod-lt, mod-eq_of_lt, mul_assoc, mul_comm, add-mul, pow-suc, zero-mul, arith, pow_pos, pow_mono, shr-shr, le-leb, leb-true}
use native.Mathlib.Nat.{pow-zero}
use lib.Arith.{digits_div, digits_mod, digits_lt}
use lib.Pow.{split, mod-mod-pow, ones_lt}
use lib.Bits.{bit_and, and_block, and_mask, and_zero_r, and_le_r}
use Rattle.scan.specs.Scan.{every}
use Rattle.scan.proofs.Scan.{and_left, and_right, and_both}
use Rattle.words.specs.Words.{lanes, bytes_of, in_base}
use Rattle.words.specs.Tests.{copies}
use Rattle.words.proofs.Lanes.{nibbles}

-- the low half of each of m pairs of lanes
abbrev pub evens : ℕ → ℕ → ℕ
evens k zero = 0
evens k (suc m) = evens k m * 2 ^ (k + k) + (2 ^ k - 1)

-- twice m, so that lanes unfold by pairs
abbrev twice : ℕ → ℕ
twice zero = zero
twice (suc m) = suc (suc (twice m))

-- neighbours joined in base c
abbrev joined : ℕ → List ℕ → List ℕ
joined c [] = []
joined c (a ∷ []) = []
joined c (a ∷ b ∷ ds) = (a * c + b) ∷ joined c ds

-- in all lanes at once
abbrev pub joined_in : ℕ → ℕ → ℕ → ℕ → ℕ
joined_in k m c y = bit_and y (evens k m) * c + bit_and (y / 2 ^ k) (evens k m)

low_lane : (k y e : ℕ) → bit_and y (e * 2 ^ (k + k) + (2 ^ k - 1)) ≡ bit_and (y / 2 ^ (k + k)) e * 2 ^ (k + k) + y % 2 ^ k
low_lane k y e =
    ap (λ (n : ℕ). bit_and n (e * 2 ^ (k + k) + (2 ^ k - 1))) (sym (split y (k + k)))
    ∙ and_block (k + k) (y / 2 ^ (k + k)) e (y % 2 ^ (k + k)) (2 ^ k - 1) (mod-lt y (pow_pos (k + k))) (lt_of_lt_of_le (ones_lt k) (pow_mono (le-add_right k k)))
    ∙ ap (λ (n : ℕ). bit_and (y / 2 ^ (k + k)) e * 2 ^ (k + k) + n) (and_mask (y % 2 ^ (k + k)) k ∙ mod-mod-pow y k k)

join_sums : (a b c p u v : ℕ) → (a * p + u) * c + (b * p + v) ≡ (a * c + b) * p + (u * c + v)
join_sums a b c p u v =
    let e = add-mul (a * p) u c in
    let f : a * p * c ≡ a * c * p = mul_assoc a p c ∙ ap (λ (n : ℕ). a * n) (mul_comm p c) ∙ sym (mul_assoc a c p) in
    let g = add-mul (a * c) b p in
    omega (arith, e, f, g)

shift_swap : (k y : ℕ) → y / 2 ^ k / 2 ^ (k + k) ≡ y / 2 ^ (k + k) / 2 ^ k
shift_swap k y = shr-shr y k (k + k) ∙ ap (λ (n : ℕ). y / 2 ^ n) (omega arith) ∙ sym (shr-shr y (k + k) k)

module _ (k c : ℕ) where
  -- the lowest pair
  abbrev pair : ℕ → ℕ
  pair y = y % 2 ^ k * c + y / 2 ^ k % 2 ^ k

  joined-suc : (m y : ℕ) → joined_in k (suc m) c y ≡ joined_in k m c (y / 2 ^ (k + k)) * 2 ^ (k + k) + pair y
  joined-suc m y =
      ap₂ (λ (p q : ℕ). p * c + q) (low_lane k y (evens k m)) (low_lane k (y / 2 ^ k) (evens k m))
      ∙ join_sums (bit_and (y / 2 ^ (k + k)) (evens k m)) (bit_and (y / 2 ^ k / 2 ^ (k + k)) (evens k m)) c (2 ^ (k + k)) (y % 2 ^ k) (y / 2 ^ k % 2 ^ k)
      ∙ ap (λ (n : ℕ). (bit_and (y / 2 ^ (k + k)) (evens k m) * c + bit_and n (evens k m)) * 2 ^ (k + k) + pair y) (shift_swap k y)

-- every lane is at most t
abbrev at_most : ℕ → List ℕ → Bool
at_most t = every (λ d. leb d t)

module _ (k c t : ℕ) (room : t * c + t < 2 ^ (k + k)) where
  pair_most : (y : ℕ) → y % 2 ^ k ≤ t → y / 2 ^ k % 2 ^ k ≤ t → pair k c y ≤ t * c + t
  pair_most y f g = add-le-add (mul-le-mul_right c f) g

  joined-lanes : (m y : ℕ) → at_most t (lanes k (twice m) y) ≡ true
      → (lanes (k + k) m (joined_in k m c y) ≡ joined c (lanes k (twice m) y)) × (joined_in k m c y < (2 ^ (k + k)) ^ m) × (at_most (t * c + t) (joined c (lanes k (twice m) y)) ≡ true)
  joined-lanes zero y h = (refl, rw (and_zero_r y, and_zero_r (y / 2 ^ k)) (omega (arith, pow-zero (2 ^ (k + k)), zero-mul c)), refl)
  joined-lanes (suc m) y h =
      let z : ℕ = joined_in k m c (y / 2 ^ k / 2 ^ k) in
      let f = leb-true (y % 2 ^ k) t (and_left _ _ h) in
      let g = leb-true (y / 2 ^ k % 2 ^ k) t (and_left _ _ (and_right (leb (y % 2 ^ k) t) _ h)) in
      let l = pair_most y f g in
      let i = joined-lanes m (y / 2 ^ k / 2 ^ k) (and_right (leb (y / 2 ^ k % 2 ^ k) t) _ (and_right (leb (y % 2 ^ k) t) _ h)) in
      let e : joined_in k (suc m) c y ≡ z * 2 ^ (k + k) + pair k c y =
      joined-suc k c m y ∙ ap (λ (x : ℕ). joined_in k m c x * 2 ^ (k + k) + pair k c y) (sym (shr-shr y k k)) in
      let r : pair k c y < 2 ^ (k + k) = omega arith in (
        ap₂ ◌∷◌ (ap (λ (x : ℕ). x % 2 ^ (k + k)) e ∙ digits_mod z r) (ap (λ (x : ℕ). lanes (k + k) m (x / 2 ^ (k + k))) e ∙ ap (lanes (k + k) m) (digits_div z r) ∙ i.0),
        rw (e, pow-suc (2 ^ (k + k)) m) (digits_lt i.1 r),
        and_both _ _ (le-leb _ _ l) i.2,
      )

-- the digits of a number in base c² are those in base c, joined
joined-value : (k c m y n : ℕ) → in_base (c * c) n (joined c (lanes k (twice m) y)) ≡ in_base c n (lanes k (twice m) y)
joined-value k c zero y n = refl
joined-value k c (suc m) y n =
    let a : ℕ = y % 2 ^ k in
    let b : ℕ = y / 2 ^ k % 2 ^ k in
    let e : n * (c * c) + (a * c + b) ≡ (n * c + a) * c + b = omega (arith, add-mul (n * c) a c, mul_assoc n c c) in
    ap (λ (x : ℕ). in_base (c * c) x (joined c (lanes k (twice m) (y / 2 ^ k / 2 ^ k)))) e ∙ joined-value k c m (y / 2 ^ k / 2 ^ k) ((n * c + a) * c + b)

nibbles_most : (n y : ℕ) → at_most 15 (map (λ b. bit_and b 15) (lanes 8 n y)) ≡ true
nibbles_most zero y = refl
nibbles_most (suc n) y = and_both _ _ (le-leb (bit_and (y % 256) 15) 15 (and_le_r (y % 256) 15)) (nibbles_most n (y / 256))

-- ---- eight digits

module _ (y : ℕ) where
  abbrev pub digits_of : ℕ
  digits_of = bit_and y (copies 15 8)

  abbrev pub pairs_of : ℕ
  pairs_of = joined_in 8 4 10 digits_of

  abbrev pub fours_of : ℕ
  fours_of = joined_in 16 2 100 pairs_of

  abbrev pub eight_of : ℕ
  eight_of = joined_in 32 1 10000 fours_of

  pairs_joined : (lanes 16 4 pairs_of ≡ joined 10 (lanes 8 8 digits_of)) × (pairs_of < 2 ^ 64) × (at_most 165 (joined 10 (lanes 8 8 digits_of)) ≡ true)
  pairs_joined = joined-lanes 8 10 15 (omega arith) 4 digits_of (ap (at_most 15) (nibbles 8 y) ∙ nibbles_most 8 y)

  fours_joined : (lanes 32 2 fours_of ≡ joined 100 (lanes 16 4 pairs_of)) × (fours_of < 2 ^ 64) × (at_most 16665 (joined 100 (lanes 16 4 pairs_of)) ≡ true)
  fours_joined = joined-lanes 16 100 165 (omega arith) 2 pairs_of (ap (at_most 165) pairs_joined.0 ∙ pairs_joined.2)

  eight_joined : (lanes 64 1 eight_of ≡ joined 10000 (lanes 32 2 fours_of)) × (eight_of < 2 ^ 64) × (at_most 166666665 (joined 10000 (lanes 32 2 fours_of)) ≡ true)
  eight_joined = joined-lanes 32 10000 16665 (omega arith) 1 fours_of (ap (at_most 16665) fours_joined.0 ∙ fours_joined.2)

  pub pairs_fit : pairs_of < 2 ^ 64
  pairs_fit = pairs_joined.1

  pub fours_fit : fours_of < 2 ^ 64
  fours_fit = fours_joined.1

  pub eight_fit : eight_of < 2 ^ 64
  eight_fit = eight_joined.1

  pub eight_value : eight_of ≡ in_base 10 0 (map (λ b. bit_and b 15) (bytes_of y))
  unfolding bytes_of
  eight_value =
      let e : eight_of ≡ 0 * 100000000 + eight_of % 2 ^ 64 = omega (arith, mod-eq_of_lt eight_fit) in
      e ∙ ap (in_base 100000000 0) eight_joined.0
      ∙ joined-value 32 10000 1 fours_of 0 ∙ ap (in_base 10000 0) fours_joined.0
      ∙ joined-value 16 100 2 pairs_of 0 ∙ ap (in_base 100 0) pairs_joined.0
      ∙ joined-value 8 10 4 digits_of 0 ∙ ap (in_base 10 0) (nibbles 8 y)
