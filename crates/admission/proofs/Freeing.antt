-- Pages freed in the bytes of a state are freed in the state.
use mathlib.Core.Path.{◌≡◌, refl, sym, ap, ◌∙◌}
use mathlib.Core.Bool.{true, false, cond, ◌&&◌}
use mathlib.Core.Logic.{◌≢◌}
use mathlib.Core.List.{List, [], ◌∷◌, ◌++◌, map}
use Prim.Native.Nat.{ℕ, zero, suc, ◌+◌, ◌*◌, ◌≤◌, ◌<◌}
use native.Mathlib.Nat.{add-zero}
use native.Mathlib.Numerals.{add-one}
use native.Mathlib.Omega.{arith}
use lib.Dec.{eqb, ltb}
use lib.ListN.{length, get_or, set, take, drop, length-map}
use lib.Seq.{set-get_or}
use borrow.Table.Steps.{cases}
use Rattle.memory.proofs.Bytes.{length-overwrite}
use Rattle.scan.proofs.Loops.{map_more, map-done}
use Rattle.device.specs.declared.Slot.{Slot}
use Rattle.device.specs.declared.CacheState.{CacheState}
use Rattle.device.specs.Device.{slot_count, free_slot, free_where, with_slots}
use Rattle.device.specs.Truncating.{pages_from}
use Rattle.state_bytes.specs.Encoding.{state_bytes, slots_start, slot_bytes, encode, decode, element_set, slot_set, slots_zero}
use Rattle.state_bytes.specs.Inverse.{Shaped, are_bytes}
use Rattle.state_bytes.proofs.Inverse.{inverse}
use Rattle.state_bytes.proofs.InPlace.{shaped, changed, slot_read, slot_set_lem, set_other}
use Rattle.state_bytes.proofs.Zeros.{slots_zero_at}
use Rattle.admission.specs.Freeing.{is_from, freed_slots}

-- ---- one slot more

module _ (f n k : ℕ) (bytes state : List ℕ) (h : state ≡ freed_slots f n k bytes) where
  pub freed_here : is_from f n (get_or (decode state).slots k free_slot) ≡ true → slot_set state k free_slot ≡ freed_slots f n (k + 1) bytes
  unfolding freed_slots
  freed_here e = rw (add-one, ← h, e)

  pub freed_none : is_from f n (get_or (decode state).slots k free_slot) ≡ false → state ≡ freed_slots f n (k + 1) bytes
  unfolding freed_slots
  freed_none e = rw (add-one, ← h, e)

-- more slots whose bytes are 0
module _ (f n : ℕ) (bytes state : List ℕ) where
  -- a slot whose first byte is 0 is free
  blank : (k : ℕ) → length state ≡ state_bytes → k < slot_count → get_or state (slots_start + 3 * k) 0 ≡ 0
      → is_from f n (get_or (decode state).slots k free_slot) ≡ false
  blank k e h z = rw (slot_read state e k h, z)

  blanks : (k m : ℕ) → length state ≡ state_bytes → k + m ≤ slot_count → ((i : ℕ) → i < 3 * m → get_or state (slots_start + 3 * k + i) 0 ≡ 0)
      → state ≡ freed_slots f n k bytes → state ≡ freed_slots f n (k + m) bytes
  blanks k zero e l z h = let q : k + 0 ≡ k = omega arith in rw q h
  blanks k (suc m) e l z h =
      let q : k + suc m ≡ k + 1 + m = omega arith in
      rw q
      (blanks (k + 1) m e (omega arith)
      (λ i j. let w : slots_start + 3 * (k + 1) + i ≡ slots_start + 3 * k + (3 + i) = omega arith in rw w (z (3 + i) (omega arith)))
      (freed_none f n k bytes state h (blank k e (omega arith) (rw add-zero at (z 0 (omega arith))))))

  pub freed_zero : (k m : ℕ) → slots_zero state k m ≡ true → state ≡ freed_slots f n k bytes → state ≡ freed_slots f n (k + m) bytes
  freed_zero k m t h = let w = slots_zero_at state k m t in blanks k m w.0 w.1 w.2 h

-- ---- the length of the bytes stays

pub length-slot_set : (bytes : List ℕ) (k : ℕ) (x : Slot) → length (slot_set bytes k x) ≡ length bytes
unfolding element_set
length-slot_set bytes k x =
    cases (eqb (length bytes) state_bytes && ltb k slot_count)
    (λ e. rw e (length-overwrite bytes (slots_start + 3 * k) (slot_bytes x)))
    (λ e. rw e)

pub length_freed : (f n k : ℕ) (bytes : List ℕ) → length (freed_slots f n k bytes) ≡ length bytes
unfolding freed_slots
length_freed f n zero bytes = refl
length_freed f n (suc k) bytes =
    let before = freed_slots f n k bytes in
    cases (is_from f n (get_or (decode before).slots k free_slot))
    (λ e. rw e (length-slot_set before k free_slot ∙ length_freed f n k bytes))
    (λ e. rw e (length_freed f n k bytes))

-- ---- bytes of another length stay

pub freed_other : (f n k : ℕ) (bytes : List ℕ) → length bytes ≢ state_bytes → freed_slots f n k bytes ≡ bytes
unfolding freed_slots
freed_other f n zero bytes e = refl
freed_other f n (suc k) bytes e =
    rw (freed_other f n k bytes e, set_other slot_bytes slots_start 3 slot_count bytes k free_slot e)
    (cases (is_from f n (get_or (decode bytes).slots k free_slot)) (λ b. rw b) (λ b. rw b))

-- ---- the bytes of a state

module _ {A : Type 0} (g : A → A) where
  -- the first k are mapped: their number stays, and the next is as it came
  length-mixed : (k : ℕ) (xs : List A) → length (map g (take k xs) ++ drop k xs) ≡ length xs
  length-mixed zero xs = refl
  length-mixed (suc k) [] = refl
  length-mixed (suc k) (x ∷ xs) = ap suc (length-mixed k xs)

  get_or-mixed : (k : ℕ) (xs : List A) (d : A) → get_or (map g (take k xs) ++ drop k xs) k d ≡ get_or xs k d
  get_or-mixed zero xs d = refl
  get_or-mixed (suc k) [] d = refl
  get_or-mixed (suc k) (x ∷ xs) d = get_or-mixed k xs d

module _ (f n : ℕ) (s : CacheState) (h : Shaped s) where
  -- the state with the first k slots freed
  abbrev freed : ℕ → CacheState
  freed k = with_slots s (map (free_where (pages_from f n)) (take k s.slots) ++ drop k s.slots)

  freed_shaped : (k : ℕ) → Shaped (freed k)
  freed_shaped k = record { slots = length-mixed (free_where (pages_from f n)) k s.slots ∙ h.slots; logical = h.logical; floor = h.floor }

  freed_next : (k : ℕ) → k < slot_count
      → cond (is_from f n (get_or s.slots k free_slot)) (slot_set (encode (freed k)) k free_slot) (encode (freed k)) ≡ encode (freed (suc k))
  unfolding free_where
  freed_next k l =
      let g = free_where (pages_from f n) in
      let x = get_or s.slots k free_slot in
      let m = rw add-one at (map_more g k s.slots free_slot (omega (arith, h.slots))) in
      cases (is_from f n x)
      (λ e.
      let q : g x ≡ free_slot = rw e in
      rw e (slot_set_lem (freed k) (freed_shaped k) k free_slot ∙ ap (λ (l : List Slot). encode (with_slots s l)) (ap (set (freed k).slots k) (sym q) ∙ m)))
      (λ e.
      let q : g x ≡ x = rw e in
      rw e
      (ap (λ (l : List Slot). encode (with_slots s l))
      (sym (set-get_or (freed k).slots k free_slot) ∙ ap (set (freed k).slots k) (get_or-mixed g k s.slots free_slot ∙ sym q) ∙ m)))

  freed_steps : (k : ℕ) → k ≤ slot_count → freed_slots f n k (encode s) ≡ encode (freed k)
  unfolding freed_slots
  freed_steps zero l = refl
  freed_steps (suc k) l =
      rw (freed_steps k (omega arith), inverse.there_and_back (freed k) (freed_shaped k), get_or-mixed (free_where (pages_from f n)) k s.slots free_slot) (freed_next k l)

  pub freed_encoded : freed_slots f n slot_count (encode s) ≡ encode (with_slots s (map (free_where (pages_from f n)) s.slots))
  freed_encoded =
      freed_steps slot_count (omega arith)
      ∙ ap (λ (l : List Slot). encode (with_slots s l)) (map-done (free_where (pages_from f n)) slot_count s.slots (omega (arith, h.slots)))

-- in any bytes
module _ (f n : ℕ) (bytes : List ℕ) (e : length bytes ≡ state_bytes) (small : are_bytes bytes ≡ true) where
  pub freed_changed : (after : List ℕ) → after ≡ freed_slots f n slot_count bytes
      → decode after ≡ with_slots (decode bytes) (map (free_where (pages_from f n)) (decode bytes).slots)
  freed_changed =
      let h : Shaped (decode bytes) = shaped bytes in
      changed bytes e small (freed_slots f n slot_count) (with_slots (decode bytes) (map (free_where (pages_from f n)) (decode bytes).slots))
      (record { slots = length-map (decode bytes).slots (free_where (pages_from f n)) ∙ h.slots; logical = h.logical; floor = h.floor })
      (freed_encoded f n (decode bytes) h)
