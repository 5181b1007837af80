-- Eight tests at once: an operation on a word that works on each byte apart, up to the first byte that fails.
use Rattle.std.proofs.Common.{◌≡◌, ℕ, zero, suc, ◌+◌, ◌*◌, ◌/◌, ◌%◌, ◌^◌, ◌<◌, Bool, true, false, cond, ◌&&◌, eqb, ltb, ◌∷◌, map, sym, refl, ap, ◌∙◌, ap₂, suc-le-suc, zero-le, le_trans, le_of_eq, add-zero, add-suc, mod-lt, add_comm, suc-add, pow-suc, zero-add, mul-suc, div-one, add-one, arith, shr-shr, ltb-true, eqb-true}
use native.Mathlib.Nat.{mod-one, one-le-pow}
use lib.Arith.{digits_div, digits_mod, mod-mul}
use lib.Pow.{mod-pow-add}
use lib.Bits.{bit_and, bit_or, bit_xor, and_mod, and_shr, or_mod, or_shr, xor_mod, xor_shr, xor_lt}
use lib.Count.{count_trailing_zeros}
use borrow.Table.Steps.{cases}
use Rattle.memory.proofs.Cases.{split_eq}
use Rattle.scan.specs.Scan.{every_below}
use Rattle.scan.proofs.Scan.{every_below_at, and_left, and_right}
use Rattle.text.specs.Ascii.{is_capital_or_digit}
use Rattle.text.specs.Decimal.{is_digit, is_zero}
use Rattle.text.specs.Runs.{run}
use Rattle.words.specs.Words.{lanes, bytes_of}
use Rattle.words.specs.Tests.{copies, plus, no_digit, no_capital, highest}

-- F of n bytes gives f of the lowest byte; where that is below m, the rest is F of the rest
record Lanewise (m : ℕ) (F : ℕ → ℕ → ℕ) (f : ℕ → ℕ) : Type 0 where
  low : (n y : ℕ) → F (suc n) y % 256 ≡ f (y % 256)
  high : (n y : ℕ) → y % 256 < m → F (suc n) y / 256 ≡ F n (y / 256)

lanewise_word : {m : ℕ} → Lanewise m (λ n y. y) (λ b. b)
lanewise_word = record { low = λ n y. refl; high = λ n y h. refl }

lanewise_copies : {m : ℕ} (c : ℕ) → c < 256 → Lanewise m (λ n y. copies c n) (λ b. c)
lanewise_copies c h = record { low = λ n y. digits_mod (copies c n) h; high = λ n y _. digits_div (copies c n) h }

byte_pos : 0 < 256
byte_pos = omega arith

wrap : (n x : ℕ) → x % 256 ^ suc n ≡ (x / 256 % 256 ^ n) * 256 + x % 256
wrap n x = ap (λ (m : ℕ). x % m) (pow-suc 256 n) ∙ mod-mul x (one-le-pow n 256 byte_pos) byte_pos

-- the lowest byte of n + 1 that wrap, and the others
pub wrap_low : (n x : ℕ) → x % 256 ^ suc n % 256 ≡ x % 256
wrap_low n x = ap (λ (m : ℕ). m % 256) (wrap n x) ∙ digits_mod (x / 256 % 256 ^ n) (mod-lt x byte_pos)

pub wrap_high : (n x : ℕ) → x % 256 ^ suc n / 256 ≡ x / 256 % 256 ^ n
wrap_high n x = ap (λ (m : ℕ). m / 256) (wrap n x) ∙ digits_div (x / 256 % 256 ^ n) (mod-lt x byte_pos)

module _ {m : ℕ} {F G : ℕ → ℕ → ℕ} {f g : ℕ → ℕ} (a : Lanewise m F f) (b : Lanewise m G g) where
  -- an operation on bits
  lanewise_bits : (op : ℕ → ℕ → ℕ) → ((x y k : ℕ) → op x y % 2 ^ k ≡ op (x % 2 ^ k) (y % 2 ^ k)) → ((x y k : ℕ) → op x y / 2 ^ k ≡ op (x / 2 ^ k) (y / 2 ^ k))
      → Lanewise m (λ n y. op (F n y) (G n y)) (λ b. op (f b) (g b))
  lanewise_bits op lows highs = record {
    low = λ n y. lows (F (suc n) y) (G (suc n) y) 8 ∙ ap₂ op (a.low n y) (b.low n y);
    high = λ n y h. highs (F (suc n) y) (G (suc n) y) 8 ∙ ap₂ op (a.high n y h) (b.high n y h);
  }

  lanewise_and : Lanewise m (λ n y. bit_and (F n y) (G n y)) (λ b. bit_and (f b) (g b))
  lanewise_and = lanewise_bits bit_and and_mod and_shr

  lanewise_or : Lanewise m (λ n y. bit_or (F n y) (G n y)) (λ b. bit_or (f b) (g b))
  lanewise_or = lanewise_bits bit_or or_mod or_shr

  lanewise_xor : Lanewise m (λ n y. bit_xor (F n y) (G n y)) (λ b. bit_xor (f b) (g b))
  lanewise_xor = lanewise_bits bit_xor xor_mod xor_shr

  -- a sum, where no byte below m makes one of 256 or more
  lanewise_add : ((b : ℕ) → b < m → f b + g b < 256) → Lanewise m (λ n y. (F n y + G n y) % 256 ^ n) (λ b. (f b + g b) % 256)
  lanewise_add room = record {
    low = λ n y.
        let x : ℕ = F (suc n) y + G (suc n) y in
        let s : x % 256 ≡ (F (suc n) y % 256 + G (suc n) y % 256) % 256 = omega arith in
        wrap_low n x ∙ s ∙ ap₂ (λ (p q : ℕ). (p + q) % 256) (a.low n y) (b.low n y);
    high = λ n y h.
        let x : ℕ = F (suc n) y + G (suc n) y in
        let r = room (y % 256) h in
        let p = a.low n y in
        let q = b.low n y in
        let s : x / 256 ≡ F (suc n) y / 256 + G (suc n) y / 256 = omega arith in
        wrap_high n x ∙ ap (λ (m : ℕ). m % 256 ^ n) (s ∙ ap₂ (λ (p q : ℕ). p + q) (a.high n y h) (b.high n y h));
  }

-- all n bytes apart
lanes-each : {F : ℕ → ℕ → ℕ} {f : ℕ → ℕ} → Lanewise 256 F f → (n y : ℕ) → lanes 8 n (F n y) ≡ map f (lanes 8 n y)
lanes-each wise zero y = refl
lanes-each wise (suc n) y = ap₂ ◌∷◌ (wise.low n y) (ap (lanes 8 n) (wise.high n y (mod-lt y byte_pos)) ∙ lanes-each wise n (y / 256))

-- the low halves of n bytes
pub nibbles : (n y : ℕ) → lanes 8 n (bit_and y (copies 15 n)) ≡ map (λ b. bit_and b 15) (lanes 8 n y)
nibbles = lanes-each (lanewise_and lanewise_word (lanewise_copies 15 (omega arith)))

-- ---- the zeros below the lowest set bit

low_bit : (j x : ℕ) → x % 2 ^ suc j ≡ (x / 2 % 2 ^ j) * 2 + x % 2
low_bit j x = ap (λ (m : ℕ). x % 2 ^ m) (sym (add-one j)) ∙ mod-pow-add x j 1

-- one of the j lowest bits is set
trailing_low : (j k x : ℕ) → 0 < x % 2 ^ j → count_trailing_zeros (k + j) x < j
unfolding count_trailing_zeros
trailing_low zero k x h = absurd (omega (arith, mod-one x))
trailing_low (suc j) k x h =
    let d = low_bit j x in
    rw (add-suc k j)
    (split_eq (x % 2) 0
    (λ e. rw e (suc-le-suc (trailing_low j k (x / 2) (omega arith))))
    (λ n. let e : x % 2 ≡ 1 = omega (arith, n) in rw e (suc-le-suc zero-le)))

-- none of them is
trailing_high : (j k x : ℕ) → x % 2 ^ j ≡ 0 → count_trailing_zeros (k + j) x ≡ j + count_trailing_zeros k (x / 2 ^ j)
unfolding count_trailing_zeros
trailing_high zero k x h = rw (add-zero k, zero-add, div-one x)
trailing_high (suc j) k x h =
    let d = low_bit j x in
    let e : x % 2 ≡ 0 = omega arith in
    rw (add-suc k j, e, trailing_high j k (x / 2) (omega arith), suc-add)
    (ap (λ (m : ℕ). suc (j + count_trailing_zeros k m)) (shr-shr x 1 j ∙ ap (λ (m : ℕ). x / 2 ^ m) (add_comm 1 j ∙ add-one j)))

-- ---- the first byte that fails the test

module _ (F : ℕ → ℕ → ℕ) (f : ℕ → ℕ) (t : ℕ → Bool) (wise : Lanewise 128 F f)
    (sorted : every_below 256 (λ b. cond (t b) (eqb (f b) 0 && ltb b 128) (ltb 0 (f b))) ≡ true) where
  told : (b : ℕ) → b < 256 → cond (t b) (eqb (f b) 0 && ltb b 128) (ltb 0 (f b)) ≡ true
  told = every_below_at 256 (λ b. cond (t b) (eqb (f b) 0 && ltb b 128) (ltb 0 (f b))) sorted

  passing : (b : ℕ) → b < 256 → t b ≡ true → (f b ≡ 0) × (b < 128)
  passing b h e =
      let q : eqb (f b) 0 && ltb b 128 ≡ true = rw e at (told b h) in
      (eqb-true (f b) 0 (and_left (eqb (f b) 0) (ltb b 128) q), ltb-true b 128 (and_right (eqb (f b) 0) (ltb b 128) q))

  failing : (b : ℕ) → b < 256 → t b ≡ false → 0 < f b
  failing b h e = ltb-true 0 (f b) (rw e at (told b h))

  first_failing : (n y : ℕ) → count_trailing_zeros (8 * n) (F n y) / 8 ≡ run t (lanes 8 n y)
  unfolding run count_trailing_zeros
  first_failing zero y = refl
  first_failing (suc n) y =
      let b : ℕ = y % 256 in
      let k = mod-lt y byte_pos in
      let l = wise.low n y in
      cases (t b)
      (λ e.
      let p = passing b k e in
      rw (e, mul-suc 8 n, trailing_high 8 (8 * n) (F (suc n) y) (l ∙ p.0), wise.high n y p.1, ← first_failing n (y / 256)) (omega arith))
      (λ e.
      let p = trailing_low 8 (8 * n) (F (suc n) y) (le_trans (failing b k e) (le_of_eq (sym l))) in
      rw (e, mul-suc 8 n) (omega (arith, p)))

-- ---- digits, capital letters, zeros

lanewise_plus : {F : ℕ → ℕ → ℕ} {f : ℕ → ℕ} (c : ℕ) → c < 256 → Lanewise 128 F f → ((b : ℕ) → b < 128 → f b + c < 256) → Lanewise 128 (λ n y. plus c n (F n y)) (λ b. (f b + c) % 256)
lanewise_plus c h a room = lanewise_add a (lanewise_copies c h) room

lanewise_digit : Lanewise 128 no_digit (λ b. bit_or b ((bit_xor b 48 + 118) % 256))
unfolding no_digit
lanewise_digit = lanewise_or lanewise_word (lanewise_plus 118 (omega arith) (lanewise_xor lanewise_word (lanewise_copies 48 (omega arith))) (λ b h. omega (arith, xor_lt 7 b 48 h (omega arith))))

lanewise_capital : Lanewise 128 no_capital (λ b. bit_or (bit_or b ((bit_xor b 64 + 101) % 256)) (bit_xor ((bit_xor b 64 + 127) % 256) 128))
unfolding no_capital
lanewise_capital =
    let letter = lanewise_xor lanewise_word (lanewise_copies 64 (omega arith)) in
    lanewise_or (lanewise_or lanewise_word (lanewise_plus 101 (omega arith) letter (λ b h. omega (arith, xor_lt 7 b 64 h (omega arith))))) (lanewise_xor (lanewise_plus 127 (omega arith) letter (λ b h. omega (arith, xor_lt 7 b 64 h (omega arith)))) (lanewise_copies 128 (omega arith)))

lanewise_highest : {F : ℕ → ℕ → ℕ} {f : ℕ → ℕ} → Lanewise 128 F f → Lanewise 128 (λ n y. highest n (F n y)) (λ b. bit_and (f b) 128)
lanewise_highest a = lanewise_and a (lanewise_copies 128 (omega arith))

pub digits-counted : (y : ℕ) → count_trailing_zeros 64 (highest 8 (no_digit 8 y)) / 8 ≡ run is_digit (bytes_of y)
unfolding bytes_of
digits-counted = first_failing _ _ is_digit (lanewise_highest lanewise_digit) refl 8

pub letters-counted : (y : ℕ) → count_trailing_zeros 64 (highest 8 (bit_and (no_digit 8 y) (no_capital 8 y))) / 8 ≡ run is_capital_or_digit (bytes_of y)
unfolding bytes_of
letters-counted = first_failing _ _ is_capital_or_digit (lanewise_highest (lanewise_and lanewise_digit lanewise_capital)) refl 8

pub zeros-counted : (y : ℕ) → count_trailing_zeros 64 (bit_xor y (copies 48 8)) / 8 ≡ run is_zero (bytes_of y)
unfolding bytes_of
zeros-counted = first_failing _ _ is_zero (lanewise_xor lanewise_word (lanewise_copies 48 (omega arith))) refl 8
