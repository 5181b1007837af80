-- Bytes that are 0: read as numbers, and as a part.
use mathlib.Core.Path.{◌≡◌, refl, sym, ap, ◌∙◌}
use mathlib.Core.Bool.{Bool, true, false, ◌&&◌, and-true, and-false}
use mathlib.Core.Logic.{◌≢◌}
use mathlib.Core.List.{List}
use Prim.Native.Nat.{ℕ, zero, suc, ◌+◌, ◌*◌, ◌<◌, ◌≤◌}
use native.Mathlib.Nat.{add_assoc, add-zero}
use native.Mathlib.Omega.{arith}
use lib.Dec.{eqb, leb}
use lib.ListN.{length, get_or}
use borrow.Author.Tests.{eq-eqb, ne_eqb, eqb-true, leb-true, le-leb, lt-leb}
use borrow.Table.Steps.{cases}
use Rattle.memory.specs.Bytes.{part}
use Rattle.memory.proofs.Bytes.{length_part, get_d_part}
use Rattle.memory.proofs.Cases.{split_eq}
use Rattle.scan.specs.Scan.{every}
use Rattle.scan.proofs.Scan.{and_left, and_right, and_assoc, is_false, true-not-false, every_below_at, every_below_all, every_at, every_all}
use Rattle.device.specs.Device.{slot_count}
use Rattle.state_bytes.specs.Encoding.{state_bytes, slots_start, number_in, zeros_from, slots_zero}

zeros_at : (bytes : List ℕ) (a n : ℕ) → zeros_from bytes a n ≡ true → (i : ℕ) → i < n → get_or bytes (a + i) 0 ≡ 0
unfolding zeros_from
zeros_at bytes a n e i h = eqb-true _ _ (every_below_at n (λ j. eqb (get_or bytes (a + j) 0) 0) e i h)

zeros_all : (bytes : List ℕ) (a n : ℕ) → ((i : ℕ) → i < n → get_or bytes (a + i) 0 ≡ 0) → zeros_from bytes a n ≡ true
unfolding zeros_from
zeros_all bytes a n h = every_below_all n (λ j. eqb (get_or bytes (a + j) 0) 0) (λ i l. eq-eqb (get_or bytes (a + i) 0) 0 (h i l))

zeros-join : (bytes : List ℕ) (a m n : ℕ) → zeros_from bytes a (m + n) ≡ zeros_from bytes a m && zeros_from bytes (a + m) n
unfolding zeros_from
zeros-join bytes a m zero = rw add-zero (sym (and-true (zeros_from bytes a m)))
zeros-join bytes a m (suc n) =
    let e : m + suc n ≡ suc (m + n) = omega arith in
    rw (e, zeros-join bytes a m n, add_assoc a m n) (sym (and_assoc (zeros_from bytes a m) (zeros_from bytes (a + m) n) (eqb (get_or bytes (a + (m + n)) 0) 0)))

-- ---- bytes as one number

-- n bytes from index a + i on, low byte first
abbrev number : List ℕ → ℕ → ℕ → ℕ → ℕ
number bytes a i zero = 0
number bytes a i (suc n) = get_or bytes (a + i) 0 + 256 * number bytes a (suc i) n

-- they are 0 where the number is
zeros-number : (bytes : List ℕ) (a i n : ℕ) → zeros_from bytes (a + i) n ≡ eqb (number bytes a i n) 0
unfolding zeros_from
zeros-number bytes a i zero = refl
zeros-number bytes a i (suc n) =
    let q : 1 + n ≡ suc n = omega arith in
    let w : a + i + 1 ≡ a + suc i = omega arith in
    let first : zeros_from bytes (a + i) (suc n) ≡ eqb (get_or bytes (a + i) 0) 0 && zeros_from bytes (a + suc i) n = rw (q, add-zero, w) at (zeros-join bytes (a + i) 1 n) in
    first ∙ rw (zeros-number bytes a (suc i) n) (both (get_or bytes (a + i) 0) (number bytes a (suc i) n))
  where
    both : (b w : ℕ) → eqb b 0 && eqb w 0 ≡ eqb (b + 256 * w) 0
    both b w =
        split_eq b 0
        (λ e. split_eq w 0 (λ d. rw (e, d)) (λ n. rw (e, ne_eqb w 0 n) (sym (ne_eqb (0 + 256 * w) 0 (λ q. n (omega arith))))))
        (λ n. rw (ne_eqb b 0 n) (sym (ne_eqb (b + 256 * w) 0 (λ q. n (omega arith)))))

module _ (bytes : List ℕ) (a : ℕ) where
  abbrev word : ℕ
  word = number_in bytes a + 4294967296 * number_in bytes (a + 4)

  -- eight bytes are 0 where their word is
  zeros-word : zeros_from bytes a 8 ≡ eqb word 0
  zeros-word =
      let e : word ≡ number bytes a 0 8 = rw (add-zero, add_assoc a 4 1, add_assoc a 4 2, add_assoc a 4 3) (omega arith) in
      ap (λ (i : ℕ). zeros_from bytes i 8) (sym (add-zero a)) ∙ zeros-number bytes a 0 8 ∙ ap (λ (m : ℕ). eqb m 0) (sym e)

-- three words
pub zeros-three : (bytes : List ℕ) (a : ℕ) → eqb (word bytes a) 0 && (eqb (word bytes (a + 8)) 0 && eqb (word bytes (a + 16)) 0) ≡ zeros_from bytes a 24
zeros-three bytes a =
    sym
    (zeros-join bytes a 8 16
    ∙ rw (zeros-word bytes a, zeros-join bytes (a + 8) 8 8, zeros-word bytes (a + 8), add_assoc a 8 8, zeros-word bytes (a + 16)))

-- ---- a part, and slots

pub zeros-part : (bytes : List ℕ) (a n : ℕ) → a + n ≤ length bytes → every (λ b. eqb b 0) (part bytes a n) ≡ zeros_from bytes a n
zeros-part bytes a n h =
    let zero : ℕ → Bool = λ b. eqb b 0 in
    let long : length (part bytes a n) ≡ n = length_part bytes a n h in
    cases (zeros_from bytes a n)
    (λ e. every_all zero (part bytes a n) 0 (λ k l. rw (get_d_part bytes a n k (omega arith)) (eq-eqb (get_or bytes (a + k) 0) 0 (zeros_at bytes a n e k (omega arith)))) ∙ sym e)
    (λ e.
    is_false (every zero (part bytes a n))
    (λ t.
    true-not-false (zeros_from bytes a n)
    (zeros_all bytes a n (λ i l. sym (get_d_part bytes a n i l) ∙ eqb-true _ _ (every_at zero (part bytes a n) 0 t i (omega arith)))) e)
    ∙ sym e)

-- slots that are free, by the tests
module _ (bytes : List ℕ) (k n : ℕ) where
  pub slots_tested : length bytes ≡ state_bytes → k + n ≤ slot_count → zeros_from bytes (slots_start + 3 * k) (3 * n) ≡ slots_zero bytes k n
  unfolding slots_zero
  slots_tested e h = rw (eq-eqb (length bytes) state_bytes e, le-leb (k + n) slot_count h)

  pub slots_short : slot_count < k + n → false ≡ slots_zero bytes k n
  unfolding slots_zero
  slots_short h = rw (lt-leb (k + n) slot_count h) (sym (and-false (eqb (length bytes) state_bytes)))

  pub slots_other : length bytes ≢ state_bytes → false ≡ slots_zero bytes k n
  unfolding slots_zero
  slots_other e = rw (ne_eqb (length bytes) state_bytes e)

-- what the test shows
pub slots_zero_at : (bytes : List ℕ) (k n : ℕ) → slots_zero bytes k n ≡ true
    → (length bytes ≡ state_bytes) × (k + n ≤ slot_count) × ((i : ℕ) → i < 3 * n → get_or bytes (slots_start + 3 * k + i) 0 ≡ 0)
unfolding slots_zero
slots_zero_at bytes k n e =
    let r = and_right (eqb (length bytes) state_bytes) _ e in
    (eqb-true _ _ (and_left (eqb (length bytes) state_bytes) _ e), leb-true _ _ (and_left (leb (k + n) slot_count) _ r), zeros_at bytes (slots_start + 3 * k) (3 * n) (and_right (leb (k + n) slot_count) _ r))

-- eight of them, by three words
pub three_words : (bytes : List ℕ) (k x y z : ℕ) → length bytes ≡ state_bytes → k + 8 ≤ slot_count
    → x ≡ word bytes (slots_start + 3 * k) → y ≡ word bytes (slots_start + 3 * k + 8) → z ≡ word bytes (slots_start + 3 * k + 16)
    → eqb x 0 && (eqb y 0 && eqb z 0) ≡ slots_zero bytes k 8
three_words bytes k x y z e h ex ey ez = rw (ex, ey, ez) (zeros-three bytes (slots_start + 3 * k) ∙ slots_tested bytes k 8 e h)
