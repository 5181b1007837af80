-- The bytes of a sound state are bytes.
use mathlib.Core.Path.{◌≡◌, refl}
use mathlib.Core.Bool.{Bool, true, ◌&&◌}
use mathlib.Core.List.{List, [], ◌∷◌, ◌++◌}
use Prim.Native.Nat.{ℕ, ◌≤◌, ◌<◌, ◌/◌, ◌%◌}
use native.Mathlib.Omega.{arith}
use lib.Dec.{eqb, ltb}
use lib.ListN.{length, get_or}
use borrow.Author.Tests.{eqb-true, eq-eqb, ltb-true, lt-ltb}
use borrow.Table.Steps.{cases}
use Rattle.memory.specs.Bytes.{is_byte}
use Rattle.scan.specs.Scan.{all_of, every}
use Rattle.scan.proofs.Scan.{and_left, and_right, all_of_at, every_at, every_all}
use Rattle.media.specs.Geometry.{files, file_bytes}
use Rattle.device.specs.declared.Slot.{Slot}
use Rattle.device.specs.declared.CacheState.{CacheState}
use Rattle.device.specs.Device.{free_slot, is_used, is_free}
use Rattle.device.specs.Sound.{in_range, has_lengths, is_sound, sound_tests}
use Rattle.device.proofs.Sound.{lengths_are, sound-lengths, sound_mark, sound-sizes}
use Rattle.state_bytes.specs.Encoding.{state_bytes, encode, concat_map, slot_bytes, number_bytes}
use Rattle.state_bytes.specs.Inverse.{Shaped, are_bytes}
use Rattle.state_bytes.proofs.Inverse.{length-encode}
use Rattle.model.specs.Demands.{is_size, fits_types}
use Rattle.linked_claims.specs.LinkedStore.{is_state}

-- what the test says
pub state_bytes_lem : (xs : List ℕ) → is_state xs ≡ true → (length xs ≡ state_bytes) × (are_bytes xs ≡ true)
unfolding is_state
state_bytes_lem xs e = (eqb-true _ _ (and_right (are_bytes xs) _ e), and_left (are_bytes xs) _ e)

abbrev slot_held : Slot → Bool
slot_held k = all_of (is_byte k.used ∷ is_byte k.file ∷ is_byte k.page ∷ [])

bytes-append : (xs ys : List ℕ) → are_bytes xs ≡ true → are_bytes ys ≡ true → are_bytes (xs ++ ys) ≡ true
unfolding are_bytes
bytes-append [] ys h k = k
bytes-append (x ∷ xs) ys h k = rw (and_left (is_byte x) (are_bytes xs) h) (bytes-append xs ys (and_right (is_byte x) (are_bytes xs) h) k)

bytes-concat_map : {A : Type 0} (g : A → List ℕ) (t : A → Bool) → ((x : A) → t x ≡ true → are_bytes (g x) ≡ true) → (xs : List A) → every t xs ≡ true → are_bytes (concat_map g xs) ≡ true
unfolding are_bytes
bytes-concat_map g t h [] e = refl
bytes-concat_map g t h (x ∷ xs) e =
    bytes-append (g x) (concat_map g xs) (h x (and_left (t x) (every t xs) e)) (bytes-concat_map g t h xs (and_right (t x) (every t xs) e))

number_bytes_lem : (n : ℕ) → is_size n ≡ true → are_bytes (number_bytes n) ≡ true
unfolding are_bytes
number_bytes_lem n e =
    let h : n < 4294967296 = ltb-true _ _ e in
    rw (lt-ltb (n % 256) 256 (omega arith), lt-ltb (n / 256 % 256) 256 (omega arith), lt-ltb (n / 65536 % 256) 256 (omega arith), lt-ltb (n / 16777216) 256 (omega arith))

-- a state that code can hold has the lengths of the arrays
pub held-shaped : (s : CacheState) → fits_types s ≡ true → Shaped s
unfolding fits_types
held-shaped s e = let l = lengths_are s (and_left (has_lengths s) _ e) in record { slots = l.0; logical = l.1; floor = l.2 }

-- and its bytes are bytes
pub held_bytes : (s : CacheState) → fits_types s ≡ true → is_state (encode s) ≡ true
unfolding are_bytes is_state encode fits_types
held_bytes s e =
    let h : List Bool = has_lengths s ∷ is_byte s.mounted ∷ every slot_held s.slots ∷ every is_size s.logical ∷ every is_size s.floor ∷ [] in
    let slots : are_bytes (concat_map slot_bytes s.slots) ≡ true = bytes-concat_map slot_bytes slot_held (λ k held. held) s.slots (all_of_at h e 2) in
    let logical : are_bytes (concat_map number_bytes s.logical) ≡ true = bytes-concat_map number_bytes is_size number_bytes_lem s.logical (all_of_at h e 3) in
    let floor : are_bytes (concat_map number_bytes s.floor) ≡ true = bytes-concat_map number_bytes is_size number_bytes_lem s.floor (all_of_at h e 4) in
    let all : are_bytes (encode s) ≡ true =
    rw (all_of_at h e 1) (bytes-append (concat_map slot_bytes s.slots) _ slots (bytes-append (concat_map number_bytes s.logical) _ logical floor)) in
    rw (all, eq-eqb (length (encode s)) state_bytes (length-encode s (held-shaped s e)))

-- a sound state is one
module _ (P : ℕ) (hp : P ≤ 256) (hb : file_bytes P < 4294967296) where
  slot_held_lem : (s : Slot) → in_range P s ≡ true → slot_held s ≡ true
  unfolding in_range
  slot_held_lem s e =
      cases (is_used s)
      (λ u.
      let t : ltb s.file files && ltb s.page P ≡ true = rw u at e in
      let a : s.used ≡ 1 = eqb-true _ _ u in
      let b : s.file < files = ltb-true _ _ (and_left (ltb s.file files) _ t) in
      let c : s.page < P = ltb-true _ _ (and_right (ltb s.file files) _ t) in
      rw (a, lt-ltb s.file 256 (omega arith), lt-ltb s.page 256 (omega arith)))
      (λ u.
      let t : is_free s && (eqb s.file 0 && eqb s.page 0) ≡ true = rw u at e in
      let z : eqb s.file 0 && eqb s.page 0 ≡ true = and_right (is_free s) _ t in
      let a : s.used ≡ 0 = eqb-true _ _ (and_left (is_free s) _ t) in
      let b : s.file ≡ 0 = eqb-true _ _ (and_left (eqb s.file 0) _ z) in
      let c : s.page ≡ 0 = eqb-true _ _ (and_right (eqb s.file 0) _ z) in
      rw (a, b, c))

  sound-held : (stored : List ℕ) (s : CacheState) → is_sound P stored s ≡ true → fits_types s ≡ true
  unfolding is_sound sound_tests fits_types
  sound-held stored s e =
      let l = sound-lengths P stored s e in
      let tests : List Bool = sound_tests P stored s in
      let mark : s.mounted ≤ 1 = sound_mark P stored s e in
      let fits : (xs : List ℕ) → ((k : ℕ) → k < length xs → get_or xs k 0 < 4294967296) → every is_size xs ≡ true =
      λ xs h. every_all is_size xs 0 (λ k hk. lt-ltb _ _ (h k hk)) in
      let logical : every is_size s.logical ≡ true = fits s.logical (λ k hk. let o = sound-sizes P stored s k e (omega (arith, l.1)) in omega (arith, o.1)) in
      let floor : every is_size s.floor ≡ true = fits s.floor (λ k hk. let o = sound-sizes P stored s k e (omega (arith, l.2)) in omega (arith, o.0, o.1)) in
      let slots : every slot_held s.slots ≡ true =
      every_all slot_held s.slots free_slot (λ k hk. slot_held_lem (get_or s.slots k free_slot) (every_at (in_range P) s.slots free_slot (all_of_at tests e 1) k hk)) in
      rw (all_of_at tests e 5, lt-ltb s.mounted 256 (omega arith), slots, logical, floor)

  pub sound-bytes : (stored : List ℕ) (s : CacheState) → is_sound P stored s ≡ true → is_state (encode s) ≡ true
  sound-bytes stored s e = held_bytes s (sound-held stored s e)
