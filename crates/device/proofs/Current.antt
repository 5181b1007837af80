-- Laws of the current byte: where it is taken from, and that it is taken from nowhere else.
use mathlib.Core.Path.{◌≡◌, refl, sym, ap, ◌∙◌}
use mathlib.Core.Bool.{true}
use mathlib.Core.List.{List, ◌∷◌, ◌++◌}
use Prim.Native.Nat.{ℕ, zero, suc, ◌+◌, ◌*◌, ◌/◌, ◌%◌, ◌<◌, ◌≤◌, ◌-◌, min}
use native.Mathlib.Nat.{not-suc-le-zero, le_of_suc-le-suc}
use native.Mathlib.Omega.{arith}
use lib.ListN.{length, get_or, length-replicate}
use lib.Seq.{ext_get_or}
use borrow.Author.Tests.{lt-ltb, le-ltb}
use Rattle.memory.proofs.Cases.{split_lt}
use Rattle.memory.specs.Bytes.{zeros, part, overwrite}
use Rattle.memory.proofs.Bytes.{get_or-zeros, length-overwrite, overwrite_in, overwrite-after, get_d_part, length_part}
use Rattle.media.specs.Geometry.{page_bytes, files, file_bytes, media_bytes, file_start}
use Rattle.media.specs.Write.{byte_at}
use Rattle.media.proofs.Geometry.{file_end}
use Rattle.device.specs.Device.{Device, device_of, slot_count, free_slot, is_used, holds, slot_of, floor_at, frames_bytes, frame_start}
use Rattle.device.specs.Current.{frame_byte, current_at, current_bytes}
use Rattle.scan.proofs.Scan.{first_passes}
use Rattle.device.proofs.Device.{holds_is}

module _ (P : ℕ) where
  -- the three cases, for a byte of page q
  module _ (d : Device) (f i q : ℕ) (e : i / page_bytes ≡ q) where
    pub current-cached : slot_of d f q < slot_count → current_at P d f i ≡ frame_byte d (slot_of d f q) (i % page_bytes)
    unfolding current_at
    current-cached h = rw (e, lt-ltb _ _ h)

    pub current-media : slot_count ≤ slot_of d f q → i < floor_at d f → current_at P d f i ≡ byte_at P d.media f i
    unfolding current_at
    current-media h l = rw (e, le-ltb _ _ h, lt-ltb _ _ l)

    pub current-zero : slot_count ≤ slot_of d f q → floor_at d f ≤ i → current_at P d f i ≡ 0
    unfolding current_at
    current-zero h l = rw (e, le-ltb _ _ h, le-ltb _ _ l)

  -- it depends on the slot of its page, on that slot's byte, on the side of the floor, and on the media's byte
  pub current_like : (d c : Device) (f i : ℕ) → slot_of c f (i / page_bytes) ≡ slot_of d f (i / page_bytes)
      → (slot_of d f (i / page_bytes) < slot_count → frame_byte c (slot_of d f (i / page_bytes)) (i % page_bytes) ≡ frame_byte d (slot_of d f (i / page_bytes)) (i % page_bytes))
      → (i < floor_at d f → i < floor_at c f) → (floor_at d f ≤ i → floor_at c f ≤ i)
      → byte_at P c.media f i ≡ byte_at P d.media f i
      → current_at P c f i ≡ current_at P d f i
  current_like d c f i es eb lo hi em =
      split_lt (slot_of d f (i / page_bytes)) slot_count
      (λ l.
      current-cached c f i _ refl (rw es l)
      ∙ ap (λ (k : ℕ). frame_byte c k (i % page_bytes)) es
      ∙ eb l
      ∙ sym (current-cached d f i _ refl l))
      (λ l.
      split_lt i (floor_at d f)
      (λ h. current-media c f i _ refl (rw es l) (lo h) ∙ em ∙ sym (current-media d f i _ refl l h))
      (λ h. current-zero c f i _ refl (rw es l) (hi h) ∙ sym (current-zero d f i _ refl l h)))

  -- the same where the floor is the same
  pub current_same : (d c : Device) (f i : ℕ) → slot_of c f (i / page_bytes) ≡ slot_of d f (i / page_bytes)
      → (slot_of d f (i / page_bytes) < slot_count → frame_byte c (slot_of d f (i / page_bytes)) (i % page_bytes) ≡ frame_byte d (slot_of d f (i / page_bytes)) (i % page_bytes))
      → floor_at c f ≡ floor_at d f
      → byte_at P c.media f i ≡ byte_at P d.media f i
      → current_at P c f i ≡ current_at P d f i
  current_same d c f i es eb ef em = current_like d c f i es eb (λ l. rw ef l) (λ l. rw ef l) em

  -- no current byte is taken from a free slot: the frames may differ there
  pub free_unread : (d : Device) (frames : List ℕ) (f i : ℕ) → length d.cache.slots ≡ slot_count
      → ((k r : ℕ) → k < slot_count → r < page_bytes → is_used (get_or d.cache.slots k free_slot) ≡ true → get_or frames (page_bytes * k + r) 0 ≡ frame_byte d k r)
      → current_at P (device_of d.media frames d.cache) f i ≡ current_at P d f i
  free_unread d frames f i sl h =
      current_same d (device_of d.media frames d.cache) f i refl
      (λ l.
      h (slot_of d f (i / page_bytes)) (i % page_bytes) l (omega arith)
      (holds_is f (i / page_bytes) (get_or d.cache.slots (slot_of d f (i / page_bytes)) free_slot)
      (first_passes (holds f (i / page_bytes)) d.cache.slots free_slot (omega arith))).0)
      refl refl

  -- ---- runs of current bytes

  module _ (d : Device) (f : ℕ) where
    pub length-current : (i n : ℕ) → length (current_bytes P d f i n) ≡ n
    length-current i zero = refl
    length-current i (suc n) = ap suc (length-current (suc i) n)

    pub current_at_lem : (i n k : ℕ) → k < n → get_or (current_bytes P d f i n) k 0 ≡ current_at P d f (i + k)
    current_at_lem i zero k h = absurd (not-suc-le-zero h)
    current_at_lem i (suc n) zero h = ap (current_at P d f) (omega arith)
    current_at_lem i (suc n) (suc k) h = current_at_lem (suc i) n k (le_of_suc-le-suc h) ∙ ap (current_at P d f) (omega arith)

-- ---- the current bytes of a page, and of a run of pages

module _ (P : ℕ) (d : Device) (f : ℕ) where
  -- n of them from i on, within one page
  module _ (i n k : ℕ) (e : k ≡ slot_of d f (i / page_bytes)) (one : i % page_bytes + n ≤ page_bytes) where
    pub bytes-cached : k < slot_count → length d.frames ≡ frames_bytes → part d.frames (frame_start k + i % page_bytes) n ≡ current_bytes P d f i n
    bytes-cached h l =
        let a : ℕ = frame_start k + i % page_bytes in
        let lp : length (part d.frames a n) ≡ n = length_part d.frames a n (omega arith) in
        ext_get_or 0 (part d.frames a n) (current_bytes P d f i n) (lp ∙ sym (length-current P d f i n)) (λ r hr.
        get_d_part d.frames a n r (omega arith)
        ∙ ap (λ (j : ℕ). get_or d.frames j 0) (let z : (i + r) % page_bytes ≡ i % page_bytes + r = omega arith in rw (← e, z) (omega arith))
        ∙ sym (current_at_lem P d f i n r (omega arith) ∙ current-cached P d f (i + r) (i / page_bytes) (omega arith) (omega arith)))

  -- n of them from i on, none of whose pages is cached
  pub bytes-stored : (i n : ℕ) → ((p : ℕ) → i / page_bytes ≤ p → page_bytes * p < i + n → slot_count ≤ slot_of d f p)
      → f < files → i + n ≤ file_bytes P → length d.media.bytes ≡ media_bytes P
      → overwrite (zeros n) 0 (part d.media.bytes (file_start P f + i) (min n (floor_at d f - i))) ≡ current_bytes P d f i n
  bytes-stored i n none hf fits lm =
      let a : ℕ = file_start P f + i in
      let m : ℕ = min n (floor_at d f - i) in
      let over : List ℕ = part d.media.bytes a m in
      let lo : length over ≡ m = length_part d.media.bytes a m (omega (arith, file_end P f hf)) in
      let lz : length (zeros n) ≡ n = length-replicate {A = ℕ} n 0 in
      ext_get_or 0 (overwrite (zeros n) 0 over) (current_bytes P d f i n) (length-overwrite (zeros n) 0 over ∙ lz ∙ sym (length-current P d f i n)) (λ r hr.
      let l : r < n = omega (arith, length-overwrite (zeros n) 0 over) in
      let q : ℕ = (i + r) / page_bytes in
      let h : slot_count ≤ slot_of d f q = none q (omega arith) (omega arith) in
      split_lt (i + r) (floor_at d f)
      (λ low.
      overwrite_in (zeros n) 0 over r (omega arith) (omega arith) (omega arith)
      ∙ get_d_part d.media.bytes a m (r - 0) (omega arith)
      ∙ ap (λ (j : ℕ). get_or d.media.bytes j 0) (omega arith)
      ∙ sym (current_at_lem P d f i n r l ∙ current-media P d f (i + r) q (omega arith) h low))
      (λ high.
      overwrite-after (zeros n) 0 over r (omega arith)
      ∙ get_or-zeros n r
      ∙ sym (current_at_lem P d f i n r l ∙ current-zero P d f (i + r) q (omega arith) h high)))

  pub current-join : (i n k : ℕ) → current_bytes P d f i (n + k) ≡ current_bytes P d f i n ++ current_bytes P d f (i + n) k
  current-join i zero k = let e : zero + k ≡ k = omega arith in let z : i + 0 ≡ i = omega arith in rw (e, z)
  current-join i (suc n) k =
      let e : suc n + k ≡ suc (n + k) = omega arith in
      let z : suc i + n ≡ i + suc n = omega arith in
      rw (e, ← z) (ap (λ l. current_at P d f i ∷ l) (current-join (suc i) n k))
