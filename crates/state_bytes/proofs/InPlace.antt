-- The bytes read and changed in place: what a slot and a size are, and that a change of the bytes of a state is one of the state.
use mathlib.Core.Path.{◌≡◌, refl, sym, ap, ◌∙◌}
use mathlib.Core.Bool.{true, cond, ◌&&◌}
use mathlib.Core.Logic.{◌≢◌}
use mathlib.Core.List.{List, [], ◌∷◌, ◌++◌, append-nil, append_assoc}
use Prim.Native.Nat.{ℕ, zero, suc, ◌+◌, ◌*◌, ◌≤◌, ◌<◌}
use native.Mathlib.Nat.{not-suc-le-zero, le_of_suc-le-suc, mul-suc, mul-zero, mul-le-mul_left, zero-add}
use native.Mathlib.Omega.{arith}
use lib.ListN.{length, get_or, set, replicate, length-append, length-set, length-replicate, get_or-eq_default}
use lib.Dec.{eqb, ltb}
use lib.Seq.{set_out}
use borrow.Author.Tests.{eq-eqb, ne_eqb, lt-ltb, le-ltb}
use Rattle.memory.specs.Bytes.{overwrite}
use Rattle.memory.proofs.Bytes.{get_or-zeros, overwrite-none}
use Rattle.memory.proofs.Cases.{split_lt, split_eq}
use Rattle.media.specs.Geometry.{files}
use Rattle.device.specs.declared.Slot.{Slot}
use Rattle.device.specs.declared.CacheState.{CacheState}
use Rattle.device.specs.Device.{slot_count, free_slot, down_state, with_slots, with_logical, with_floor}
use Rattle.device.specs.Sound.{has_lengths}
use Rattle.state_bytes.specs.Encoding.{state_bytes, slots_start, logical_start, floor_start, slot_bytes, number_bytes, concat_map, slot_in, number_in, slots_in, sizes_in, encode, decode, element_set, slot_set, size_set}
use Rattle.state_bytes.specs.Inverse.{Shaped, are_bytes}
use Rattle.state_bytes.proofs.Encoding.{length-concat_map, length-each, get_or-each}
use Rattle.state_bytes.proofs.Inverse.{inverse, length-encode}

-- ---- read

-- of one value, many times
pub none_at : {A : Type 0} (n : ℕ) (x : A) (k : ℕ) → get_or (replicate n x) k x ≡ x
none_at zero x k = refl
none_at (suc n) x zero = refl
none_at (suc n) x (suc k) = none_at n x k

module _ (bytes : List ℕ) where
  -- bytes of another length
  pub decode_other : length bytes ≢ state_bytes → decode bytes ≡ down_state
  unfolding decode
  decode_other n = rw (ne_eqb (length bytes) state_bytes n)

  pub shaped : Shaped (decode bytes)
  unfolding decode slots_in sizes_in
  shaped =
      split_eq (length bytes) state_bytes
      (λ e. rw (eq-eqb (length bytes) state_bytes e) (record {
        slots = length-each slot_count (λ k. slot_in bytes (slots_start + 3 * k));
        logical = length-each files (λ f. number_in bytes (logical_start + 4 * f));
        floor = length-each files (λ f. number_in bytes (floor_start + 4 * f));
      }))
      (λ n. rw (ne_eqb (length bytes) state_bytes n)
      (record { slots = length-replicate slot_count free_slot; logical = length-replicate {A = ℕ} files 0; floor = length-replicate {A = ℕ} files 0 }))

  pub decode-lengths : has_lengths (decode bytes) ≡ true
  unfolding has_lengths
  decode-lengths = let h : Shaped (decode bytes) = shaped in rw (eq-eqb _ _ h.slots, eq-eqb _ _ h.logical, eq-eqb _ _ h.floor)

  module _ (e : length bytes ≡ state_bytes) where
    pub mark_read : (decode bytes).mounted ≡ get_or bytes 0 0
    unfolding decode
    mark_read = rw (eq-eqb (length bytes) state_bytes e)

    pub slots_read : (decode bytes).slots ≡ slots_in bytes
    unfolding decode
    slots_read = rw (eq-eqb (length bytes) state_bytes e)

    pub slot_read : (k : ℕ) → k < slot_count → get_or (decode bytes).slots k free_slot ≡ slot_in bytes (slots_start + 3 * k)
    unfolding slots_in
    slot_read k h = rw slots_read (get_or-each slot_count (λ n. slot_in bytes (slots_start + 3 * n)) k free_slot h)

    pub logical-read : (f : ℕ) → f < files → get_or (decode bytes).logical f 0 ≡ number_in bytes (logical_start + 4 * f)
    unfolding decode sizes_in
    logical-read f h = rw (eq-eqb (length bytes) state_bytes e) (get_or-each files (λ n. number_in bytes (logical_start + 4 * n)) f 0 h)

    pub floor-read : (f : ℕ) → f < files → get_or (decode bytes).floor f 0 ≡ number_in bytes (floor_start + 4 * f)
    unfolding decode sizes_in
    floor-read f h = rw (eq-eqb (length bytes) state_bytes e) (get_or-each files (λ n. number_in bytes (floor_start + 4 * n)) f 0 h)

  -- past the last, and in bytes of another length
  pub slot_other : length bytes ≢ state_bytes → (k : ℕ) → get_or (decode bytes).slots k free_slot ≡ free_slot
  slot_other n k = rw (decode_other n) (none_at slot_count free_slot k)

  pub slot_past : (k : ℕ) → slot_count ≤ k → get_or (decode bytes).slots k free_slot ≡ free_slot
  slot_past k h = get_or-eq_default (decode bytes).slots free_slot (omega (arith, shaped.slots))

  pub logical_past : (f : ℕ) → files ≤ f → get_or (decode bytes).logical f 0 ≡ 0
  logical_past f h = get_or-eq_default (decode bytes).logical 0 (omega (arith, shaped.logical))

  pub floor_past : (f : ℕ) → files ≤ f → get_or (decode bytes).floor f 0 ≡ 0
  floor_past f h = get_or-eq_default (decode bytes).floor 0 (omega (arith, shaped.floor))

  -- a size, by the two tests
  size_tested : (xs : List ℕ) (a f : ℕ) → (length bytes ≡ state_bytes → f < files → get_or xs f 0 ≡ number_in bytes (a + 4 * f))
      → (files ≤ f → get_or xs f 0 ≡ 0) → (length bytes ≢ state_bytes → get_or xs f 0 ≡ 0)
      → cond (eqb (length bytes) state_bytes && ltb f files) (number_in bytes (a + 4 * f)) 0 ≡ get_or xs f 0
  size_tested xs a f here past other =
      split_eq (length bytes) state_bytes
      (λ e. rw (eq-eqb (length bytes) state_bytes e)
      (split_lt f files (λ h. rw (lt-ltb f files h) (sym (here e h))) (λ h. rw (le-ltb f files h) (sym (past h)))))
      (λ n. rw (ne_eqb (length bytes) state_bytes n) (sym (other n)))

  module _ (f : ℕ) where
    pub logical_tested : cond (eqb (length bytes) state_bytes && ltb f files) (number_in bytes (logical_start + 4 * f)) 0 ≡ get_or (decode bytes).logical f 0
    logical_tested =
        size_tested (decode bytes).logical logical_start f (λ e. logical-read e f) (logical_past f) (λ n. rw (decode_other n) (get_or-zeros files f))

    pub floor_tested : cond (eqb (length bytes) state_bytes && ltb f files) (number_in bytes (floor_start + 4 * f)) 0 ≡ get_or (decode bytes).floor f 0
    floor_tested = size_tested (decode bytes).floor floor_start f (λ e. floor-read e f) (floor_past f) (λ n. rw (decode_other n) (get_or-zeros files f))

-- ---- changed

-- a part laid over one of two lists
overwrite_right : (us vs : List ℕ) (a : ℕ) (ws : List ℕ) → overwrite (us ++ vs) (length us + a) ws ≡ us ++ overwrite vs a ws
overwrite_right [] vs a ws = rw zero-add
overwrite_right (u ∷ us) vs a ws =
    let e : suc (length us) + a ≡ suc (length us + a) = omega arith in
    rw e (ap (λ (l : List ℕ). u ∷ l) (overwrite_right us vs a ws))

overwrite-left : (us vs : List ℕ) (a : ℕ) (ws : List ℕ) → a + length ws ≤ length us → overwrite (us ++ vs) a ws ≡ overwrite us a ws ++ vs
overwrite-left [] vs zero [] h = overwrite-none vs zero
overwrite-left [] vs zero (w ∷ ws) h = absurd (omega arith)
overwrite-left [] vs (suc a) ws h = absurd (omega arith)
overwrite-left (u ∷ us) vs (suc a) ws h = ap (λ (l : List ℕ). u ∷ l) (overwrite-left us vs a ws (omega arith))
overwrite-left (u ∷ us) vs zero [] h = refl
overwrite-left (u ∷ us) vs zero (w ∷ ws) h = ap (λ (l : List ℕ). w ∷ l) (overwrite-left us vs zero ws (omega arith))

overwrite-front : (us vs ws : List ℕ) → length ws ≡ length us → overwrite (us ++ vs) 0 ws ≡ ws ++ vs
overwrite-front [] vs [] e = overwrite-none vs 0
overwrite-front [] vs (w ∷ ws) e = absurd (omega arith)
overwrite-front (u ∷ us) vs [] e = absurd (omega arith)
overwrite-front (u ∷ us) vs (w ∷ ws) e = ap (λ (l : List ℕ). w ∷ l) (overwrite-front us vs ws (omega arith))

-- elements of c bytes each: one of them becomes another
module _ {A : Type 0} (c : ℕ) (g : A → List ℕ) (wide : (x : A) → length (g x) ≡ c) where
  concat_map-set : (xs : List A) (k : ℕ) (x : A) → k < length xs → overwrite (concat_map g xs) (c * k) (g x) ≡ concat_map g (set xs k x)
  concat_map-set [] k x h = absurd (not-suc-le-zero h)
  concat_map-set (y ∷ ys) zero x h = rw mul-zero (overwrite-front (g y) (concat_map g ys) (g x) (wide x ∙ sym (wide y)))
  concat_map-set (y ∷ ys) (suc k) x h =
      let e : c * suc k ≡ length (g y) + c * k = rw (mul-suc, wide y) (omega arith) in
      rw e (overwrite_right (g y) (concat_map g ys) (c * k) (g x) ∙ ap (λ (l : List ℕ). g y ++ l) (concat_map-set ys k x (le_of_suc-le-suc h)))

  -- in its place among the bytes of a state, between us and vs
  element_set_lem : (us vs bytes : List ℕ) (xs : List A) (a n k : ℕ) (x : A) → bytes ≡ us ++ (concat_map g xs ++ vs) → length us ≡ a → length xs ≡ n
      → length bytes ≡ state_bytes → element_set g a c n bytes k x ≡ us ++ (concat_map g (set xs k x) ++ vs)
  unfolding element_set
  element_set_lem us vs bytes xs a n k x e ea en el =
      split_lt k n
      (λ l. rw (eq-eqb (length bytes) state_bytes el, lt-ltb k n l, e, ← ea)
      (overwrite_right us (concat_map g xs ++ vs) (c * k) (g x)
      ∙ ap (λ (r : List ℕ). us ++ r)
      (overwrite-left (concat_map g xs) vs (c * k) (g x) (fits l)
      ∙ ap (λ (r : List ℕ). r ++ vs) (concat_map-set xs k x (rw en l)))))
      (λ l. rw (eq-eqb (length bytes) state_bytes el, le-ltb k n l, set_out xs k x (rw en l)) e)
    where
      fits : k < n → c * k + length (g x) ≤ length (concat_map g xs)
      fits l = rw (length-concat_map c g wide xs, wide x, en, ← mul-suc) (mul-le-mul_left c l)

module _ (s : CacheState) (h : Shaped s) where
  abbrev slot_run : List ℕ
  slot_run = concat_map slot_bytes s.slots

  abbrev logical_run : List ℕ
  logical_run = concat_map number_bytes s.logical

  abbrev floor_run : List ℕ
  floor_run = concat_map number_bytes s.floor

  slot_run_lem : length slot_run ≡ 72
  slot_run_lem = length-concat_map 3 slot_bytes (λ t. refl) s.slots ∙ rw h.slots

  logical-run : length logical_run ≡ 32
  logical-run = length-concat_map 4 number_bytes (λ t. refl) s.logical ∙ rw h.logical

  pub slot_set_lem : (k : ℕ) (x : Slot) → slot_set (encode s) k x ≡ encode (with_slots s (set s.slots k x))
  unfolding encode
  slot_set_lem k x =
      element_set_lem 3 slot_bytes (λ t. refl) (s.mounted ∷ []) (logical_run ++ floor_run) (encode s) s.slots slots_start slot_count k x refl refl h.slots (length-encode s h)

  pub logical-set : (f n : ℕ) → size_set logical_start (encode s) f n ≡ encode (with_logical s f n)
  unfolding encode
  logical-set f n =
      element_set_lem 4 number_bytes (λ t. refl) (s.mounted ∷ slot_run) floor_run (encode s) s.logical logical_start files f n refl (ap suc slot_run_lem) h.logical (length-encode s h)

  pub floor-set : (f n : ℕ) → size_set floor_start (encode s) f n ≡ encode (with_floor s f n)
  unfolding encode
  floor-set f n =
      element_set_lem 4 number_bytes (λ t. refl) (s.mounted ∷ (slot_run ++ logical_run)) [] (encode s) s.floor floor_start files f n
      (rw (append_assoc slot_run logical_run, append-nil)) (ap suc (rw (length-append, slot_run_lem, logical-run))) h.floor (length-encode s h)
      ∙ rw (append_assoc slot_run logical_run, append-nil)

-- ---- changes of bytes

-- element k becomes another where there is one
module _ {A : Type 0} (g : A → List ℕ) (a c n : ℕ) (bytes : List ℕ) (k : ℕ) (x : A) (e : length bytes ≡ state_bytes) where
  pub set_here : k < n → overwrite bytes (a + c * k) (g x) ≡ element_set g a c n bytes k x
  unfolding element_set
  set_here h = rw (eq-eqb (length bytes) state_bytes e, lt-ltb k n h)

  pub set_past : n ≤ k → bytes ≡ element_set g a c n bytes k x
  unfolding element_set
  set_past h = rw (eq-eqb (length bytes) state_bytes e, le-ltb k n h)

-- bytes of another length stay
pub set_other : {A : Type 0} (g : A → List ℕ) (a c n : ℕ) (bytes : List ℕ) (k : ℕ) (x : A) → length bytes ≢ state_bytes → element_set g a c n bytes k x ≡ bytes
unfolding element_set
set_other g a c n bytes k x e = rw (ne_eqb (length bytes) state_bytes e)

module _ (bytes : List ℕ) (e : length bytes ≡ state_bytes) (small : are_bytes bytes ≡ true) where
  -- by what the same change makes of the bytes of the state
  pub changed : (change : List ℕ → List ℕ) (s : CacheState) → Shaped s → change (encode (decode bytes)) ≡ encode s
      → (after : List ℕ) → after ≡ change bytes → decode after ≡ s
  changed change s h is after q =
      ap decode (q ∙ ap change (sym (inverse.back_and_there bytes e small)) ∙ is) ∙ inverse.there_and_back s h

  pub slot_changed : (k : ℕ) (x : Slot) (after : List ℕ) → after ≡ slot_set bytes k x → decode after ≡ with_slots (decode bytes) (set (decode bytes).slots k x)
  slot_changed k x =
      let h : Shaped (decode bytes) = shaped bytes in
      changed (λ b. slot_set b k x) (with_slots (decode bytes) (set (decode bytes).slots k x))
      (record { slots = length-set (decode bytes).slots k x ∙ h.slots; logical = h.logical; floor = h.floor })
      (slot_set_lem (decode bytes) h k x)

  pub logical_changed : (f n : ℕ) (after : List ℕ) → after ≡ size_set logical_start bytes f n → decode after ≡ with_logical (decode bytes) f n
  logical_changed f n =
      let h : Shaped (decode bytes) = shaped bytes in
      changed (λ b. size_set logical_start b f n) (with_logical (decode bytes) f n)
      (record { slots = h.slots; logical = length-set (decode bytes).logical f n ∙ h.logical; floor = h.floor })
      (logical-set (decode bytes) h f n)

  pub floor_changed : (f n : ℕ) (after : List ℕ) → after ≡ size_set floor_start bytes f n → decode after ≡ with_floor (decode bytes) f n
  floor_changed f n =
      let h : Shaped (decode bytes) = shaped bytes in
      changed (λ b. size_set floor_start b f n) (with_floor (decode bytes) f n)
      (record { slots = h.slots; logical = h.logical; floor = length-set (decode bytes).floor f n ∙ h.floor })
      (floor-set (decode bytes) h f n)
