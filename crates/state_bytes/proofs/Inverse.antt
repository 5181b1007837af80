-- The layout written and read is inverse.
use mathlib.Core.Path.{◌≡◌, refl, ap, ◌∙◌}
use mathlib.Core.Bool.{true}
use mathlib.Core.List.{List, [], ◌∷◌, ◌++◌, append-nil}
use Prim.Native.Nat.{ℕ, suc, ◌+◌, ◌*◌, ◌/◌, ◌%◌, ◌≤◌, ◌<◌}
use native.Mathlib.Nat.{add_assoc, add_comm, add-zero}
use native.Mathlib.Numerals.{add-one, unary_clauses}
use native.Mathlib.Omega.{arith}
use mir.Syntax.{w8}
use mir.Val.{Fits}
use lib.ListN.{length, get_or, drop, length-append, get_or-eq_default}
use lib.Seq.{drop-cons, drop-drop, take-add, take_all}
use borrow.Author.Tests.{eq-eqb, ltb-true, lt-ltb}
use Rattle.memory.specs.Bytes.{is_byte, part}
use Rattle.memory.proofs.Cases.{split_lt}
use Rattle.scan.proofs.Scan.{every_at, every_all}
use Rattle.media.specs.Geometry.{files}
use Rattle.device.specs.declared.CacheState.{CacheState}
use Rattle.device.specs.Device.{slot_count, free_slot}
use Rattle.state_bytes.specs.Encoding.{state_bytes, slots_start, logical_start, floor_start, slot_bytes, number_bytes, concat_map, slot_in, number_in, slots_in, sizes_in, encode, decode}
use Rattle.state_bytes.specs.Inverse.{Shaped, are_bytes, Inverse}
use Rattle.state_bytes.proofs.Encoding.{length-concat_map, concat_map_at, concat_map_past, each_is, concat_map-each}

-- ---- a state, written and read

-- what stands behind the up mark
after_mark : (m : ℕ) (xs : List ℕ) (n : ℕ) → get_or (m ∷ xs) (1 + n) 0 ≡ get_or xs n 0
after_mark m xs n = rw (add_comm 1 n, add-one)

-- a number of four bytes
number-back : (n : ℕ) → n % 256 + 256 * (n / 256 % 256) + 65536 * (n / 65536 % 256) + 16777216 * (n / 16777216) ≡ n
number-back n = omega arith

module _ (s : CacheState) (h : Shaped s) where
  -- the sizes, behind the slots
  abbrev tail : List ℕ
  tail = concat_map number_bytes s.logical ++ concat_map number_bytes s.floor

  pub length-encode : length (encode s) ≡ state_bytes
  unfolding encode
  length-encode =
      let a : length (concat_map slot_bytes s.slots) ≡ 72 = length-concat_map 3 slot_bytes (λ t. refl) s.slots ∙ rw h.slots in
      let b : length (concat_map number_bytes s.logical) ≡ 32 = length-concat_map 4 number_bytes (λ n. refl) s.logical ∙ rw h.logical in
      let c : length (concat_map number_bytes s.floor) ≡ 32 = length-concat_map 4 number_bytes (λ n. refl) s.floor ∙ rw h.floor in
      rw (length-append, length-append, a, b, c)

  slot_byte : (k j : ℕ) → k < slot_count → j < 3 → get_or (encode s) (slots_start + (3 * k + j)) 0 ≡ get_or (slot_bytes (get_or s.slots k free_slot)) j 0
  unfolding encode
  slot_byte k j l m =
      after_mark s.mounted (concat_map slot_bytes s.slots ++ tail) (3 * k + j)
      ∙ concat_map_at 3 slot_bytes (λ t. refl) s.slots tail k j free_slot (rw h.slots l) m

  logical-byte : (f j : ℕ) → f < files → j < 4 → get_or (encode s) (logical_start + (4 * f + j)) 0 ≡ get_or (number_bytes (get_or s.logical f 0)) j 0
  unfolding encode
  logical-byte f j l m =
      let e : logical_start + (4 * f + j) ≡ 1 + (3 * length s.slots + (4 * f + j)) = rw h.slots (omega arith) in
      rw e
      (after_mark s.mounted (concat_map slot_bytes s.slots ++ tail) (3 * length s.slots + (4 * f + j))
      ∙ concat_map_past 3 slot_bytes (λ t. refl) s.slots tail (4 * f + j)
      ∙ concat_map_at 4 number_bytes (λ n. refl) s.logical (concat_map number_bytes s.floor) f j 0 (rw h.logical l) m)

  floor-byte : (f j : ℕ) → f < files → j < 4 → get_or (encode s) (floor_start + (4 * f + j)) 0 ≡ get_or (number_bytes (get_or s.floor f 0)) j 0
  unfolding encode
  floor-byte f j l m =
      let n : ℕ = 4 * f + j in
      let e : floor_start + n ≡ 1 + (3 * length s.slots + (4 * length s.logical + n)) = rw (h.slots, h.logical) (omega arith) in
      rw e
      (after_mark s.mounted (concat_map slot_bytes s.slots ++ tail) (3 * length s.slots + (4 * length s.logical + n))
      ∙ concat_map_past 3 slot_bytes (λ t. refl) s.slots tail (4 * length s.logical + n)
      ∙ concat_map_past 4 number_bytes (λ t. refl) s.logical (concat_map number_bytes s.floor) n
      ∙ (rw append-nil at (concat_map_at 4 number_bytes (λ t. refl) s.floor [] f j 0 (rw h.floor l) m)))

  slots-back : slots_in (encode s) ≡ s.slots
  unfolding slots_in
  slots-back =
      each_is slot_count (λ k. slot_in (encode s) (slots_start + 3 * k)) s.slots free_slot h.slots
      (λ k l.
      let u : get_or (encode s) (slots_start + 3 * k) 0 ≡ (get_or s.slots k free_slot).used = rw add-zero at (slot_byte k 0 l (omega arith)) in
      rw (u, add_assoc slots_start (3 * k) 1, slot_byte k 1 l (omega arith), add_assoc slots_start (3 * k) 2, slot_byte k 2 l (omega arith)))

  sizes-back : (a : ℕ) (sizes : List ℕ) → length sizes ≡ files
      → ((f j : ℕ) → f < files → j < 4 → get_or (encode s) (a + (4 * f + j)) 0 ≡ get_or (number_bytes (get_or sizes f 0)) j 0)
      → sizes_in (encode s) a ≡ sizes
  unfolding sizes_in
  sizes-back a sizes e b =
      each_is files (λ f. number_in (encode s) (a + 4 * f)) sizes 0 e
      (λ f l.
      let u : get_or (encode s) (a + 4 * f) 0 ≡ get_or sizes f 0 % 256 = rw add-zero at (b f 0 l (omega arith)) in
      rw (u, add_assoc a (4 * f) 1, b f 1 l (omega arith), add_assoc a (4 * f) 2, b f 2 l (omega arith), add_assoc a (4 * f) 3, b f 3 l (omega arith))
      (number-back (get_or sizes f 0)))

  mark_back : get_or (encode s) 0 0 ≡ s.mounted
  unfolding encode
  mark_back = refl

  back : decode (encode s) ≡ s
  unfolding decode
  back =
      rw (
        eq-eqb (length (encode s)) state_bytes length-encode,
        slots-back,
        sizes-back logical_start s.logical h.logical logical-byte,
        sizes-back floor_start s.floor h.floor floor-byte,
        mark_back,
      )

-- ---- bytes, read and written

-- what code knows of a slice of bytes
pub are_bytes_lem : (xs : List ℕ) → ((i : ℕ) → Fits w8 (get_or xs i 0)) → are_bytes xs ≡ true
unfolding are_bytes
are_bytes_lem xs h = every_all is_byte xs 0 (λ i l. lt-ltb (get_or xs i 0) 256 (omega (arith, h i)))

pub byte_at : (xs : List ℕ) → are_bytes xs ≡ true → (i : ℕ) → get_or xs i 0 < 256
unfolding are_bytes
byte_at xs e i =
    split_lt i (length xs)
    (λ h. ltb-true _ _ (every_at is_byte xs 0 e i h))
    (λ h. rw (get_or-eq_default xs 0 h) (omega arith))

module _ (bytes : List ℕ) (a : ℕ) where
  part-three : a + 3 ≤ length bytes → get_or bytes a 0 ∷ get_or bytes (a + 1) 0 ∷ get_or bytes (a + 2) 0 ∷ [] ≡ part bytes a 3
  part-three h = simp (unary_clauses, drop-cons bytes a 0 (omega arith), drop-cons bytes (suc a) 0 (omega arith), drop-cons bytes (suc (suc a)) 0 (omega arith))

  part_four : a + 4 ≤ length bytes → get_or bytes a 0 ∷ get_or bytes (a + 1) 0 ∷ get_or bytes (a + 2) 0 ∷ get_or bytes (a + 3) 0 ∷ [] ≡ part bytes a 4
  part_four h = simp (unary_clauses, drop-cons bytes a 0 (omega arith), drop-cons bytes (suc a) 0 (omega arith), drop-cons bytes (suc (suc a)) 0 (omega arith), drop-cons bytes (suc (suc (suc a))) 0 (omega arith))

-- a remainder r and a quotient m, for each place
module _ (r m : ℕ) where
  low : r < 256 → (r + 256 * m) % 256 ≡ r
  low h = omega arith

  above_1 : r < 256 → (r + 256 * m) / 256 ≡ m
  above_1 h = omega arith

  above_2 : r < 65536 → (r + 65536 * m) / 65536 ≡ m
  above_2 h = omega arith

  above_3 : r < 16777216 → (r + 16777216 * m) / 16777216 ≡ m
  above_3 h = omega arith

-- four bytes that a number is read from
number-there : (a b c d : ℕ) → a < 256 → b < 256 → c < 256 → d < 256 → number_bytes (a + 256 * b + 65536 * c + 16777216 * d) ≡ a ∷ b ∷ c ∷ d ∷ []
number-there a b c d p q r s =
    let n : ℕ = a + 256 * b + 65536 * c + 16777216 * d in
    let x : n ≡ a + 256 * (b + 256 * (c + 256 * d)) = omega arith in
    let y : n ≡ a + 256 * b + 65536 * (c + 256 * d) = omega arith in
    let h : n % 256 ≡ a = rw x (low a _ p) in
    let i : n / 256 % 256 ≡ b = rw (x, above_1 a (b + 256 * (c + 256 * d)) p) (low b _ q) in
    let j : n / 65536 % 256 ≡ c = rw (y, above_2 (a + 256 * b) (c + 256 * d) (omega arith)) (low c d r) in
    let k : n / 16777216 ≡ d = above_3 (a + 256 * b + 65536 * c) d (omega arith) in
    rw (h, i, j, k)

-- a byte and three parts, one behind the other, are the whole
pieces : (bytes : List ℕ) (k l m : ℕ) → length bytes ≡ 1 + (k + (l + m)) → get_or bytes 0 0 ∷ (part bytes 1 k ++ (part bytes (1 + k) l ++ part bytes (1 + (k + l)) m)) ≡ bytes
pieces [] k l m e = absurd (omega arith)
pieces (b ∷ xs) k l m e =
    rw (add_comm 1 k, add-one, add_comm 1 (k + l), add-one, ← drop-drop l k xs, ← take-add l m (drop k xs), ← take-add k (l + m) xs)
    (ap (λ (r : List ℕ). b ∷ r) (take_all (k + (l + m)) xs (omega arith)))

module _ (bytes : List ℕ) (e : length bytes ≡ state_bytes) (small : are_bytes bytes ≡ true) where
  slots-there : concat_map slot_bytes (slots_in bytes) ≡ part bytes slots_start 72
  unfolding slots_in
  slots-there =
      concat_map-each 3 slot_bytes (λ k. slot_in bytes (slots_start + 3 * k)) bytes slots_start slot_count
      (λ k l. part-three bytes (slots_start + 3 * k) (rw e (omega arith)))

  sizes-there : (a : ℕ) → a + 32 ≤ state_bytes → concat_map number_bytes (sizes_in bytes a) ≡ part bytes a 32
  unfolding sizes_in
  sizes-there a m =
      let small_at : (i : ℕ) → get_or bytes i 0 < 256 = byte_at bytes small in
      concat_map-each 4 number_bytes (λ f. number_in bytes (a + 4 * f)) bytes a files
      (λ f l.
      number-there _ _ _ _ (small_at _) (small_at _) (small_at _) (small_at _) ∙ part_four bytes (a + 4 * f) (rw e (omega arith)))

  there : encode (decode bytes) ≡ bytes
  unfolding decode encode
  there =
      rw (eq-eqb (length bytes) state_bytes e, slots-there, sizes-there logical_start (omega arith), sizes-there floor_start (omega arith))
      (pieces bytes 72 32 32 e)

pub inverse : Inverse
inverse = record { there_and_back = back; back_and_there = there }
