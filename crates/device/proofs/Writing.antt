-- What a write does to the current bytes: a page that becomes cached, a page that is patched, page after page.
use mathlib.Core.Path.{◌≡◌, refl, sym, ap, ◌∙◌}
use mathlib.Core.Logic.{◌≢◌, ◌⊎◌, inl, inr}
use mathlib.Core.Bool.{Bool, true, false, cond, ◌||◌}
use mathlib.Core.List.{List, [], ◌∷◌, ◌++◌}
use Prim.Native.Nat.{ℕ, zero, suc, ◌+◌, ◌-◌, ◌*◌, ◌/◌, ◌%◌, ◌≤◌, ◌<◌, min, max}
use native.Mathlib.Omega.{arith}
use native.Mathlib.Nat.{add-zero}
use lib.Dec.{leb, eqb, ltb}
use lib.ListN.{length, get_or, set, take, drop, length-take, length-drop, length-replicate}
use lib.Seq.{get_or-take, get_or-drop, drop-drop, get_or-set_same, get_or-set_other, take_all}
use borrow.Author.Tests.{ltb-true, lt-ltb, le-ltb, eq-eqb, ne_eqb}
use borrow.Table.Steps.{cases}
use Rattle.answer.specs.Coded.{refused, done, NO_ROOM, coded_refusal}
use Rattle.answer.specs.Admission.{Test, test, first_refusal}
use Rattle.answer.proofs.Admission.{passed_at, passed_first, passed-rest, passed, passed-join, first_all, first-join, first-refused}
use Rattle.answer.specs.declared.Refusal.{Refusal}
use Rattle.answer.specs.declared.Refusal.TheVariants.{NoRoom}
use Rattle.memory.specs.Bytes.{part, overwrite}
use Rattle.memory.proofs.Cases.{split_lt, split_eq}
use Rattle.memory.proofs.Bytes.{get_or-zeros, length_part, get_d_part, length-overwrite, overwrite-none, overwrite-before, overwrite_in, overwrite-after}
use Rattle.media.specs.Geometry.{files, page_bytes, file_bytes, media_bytes, page_start}
use Rattle.media.specs.Write.{byte_at, Media}
use Rattle.media.proofs.Geometry.{file_end, page_end}
use Rattle.device.specs.declared.Slot.{Slot}
use Rattle.scan.specs.Scan.{first_index}
use Rattle.device.specs.Device.{Device, slot_count, frames_bytes, frame_start, free_slot, is_free, used_slot, holds, slot_of, is_cached, first_free, logical_at, floor_at, device_of, with_logical}
use Rattle.device.specs.Current.{frame_byte, current_at}
use Rattle.device.specs.Admission.{Result, give, file_tests}
use Rattle.device.specs.Writing.{has_slot, blank_page, filled_page, cache_page, patch_page, put_page, Written, and_more, put_pages, grown, has_room, write}
use Rattle.scan.proofs.Scan.{is_false, first-set, first-set_here}
use Rattle.device.proofs.Device.{holds_one, free-holds, slots_apart, first_free_was_free, free-apart, frame_other, Kept, kept_all, kept_trans}
use Rattle.device.proofs.Current.{current-cached, current-media, current-zero, current_same}
use Rattle.device.proofs.Admission.{Admitted, admit_by, file_changeless, file_admitted, admit-refused, admit-passed}
use Rattle.device.proofs.Sound.{SlotsFit, SizesFit, Fit, take-fit, logical-fit}
use Rattle.device.specs.declared.CacheState.{CacheState}

-- ---- what page steps leave, of any device

-- only slots and the bytes in frames differ
record SameBut (d c : Device) : Type 0 where
  pub kept : Kept d c
  pub logical : c.cache.logical ≡ d.cache.logical
  pub floor : c.cache.floor ≡ d.cache.floor

same_refl : (d : Device) → SameBut d d
same_refl d = record { kept = kept_all d; logical = refl; floor = refl }

same_trans : {a b c : Device} → SameBut a b → SameBut b c → SameBut a c
same_trans x y = record { kept = kept_trans x.kept y.kept; logical = y.logical ∙ x.logical; floor = y.floor ∙ x.floor }

module _ (P f : ℕ) where
  cache_same : (p : ℕ) (d : Device) → SameBut d (cache_page P f p d)
  unfolding cache_page
  cache_same p d = record {
    kept = record { media = refl; frames = length-overwrite d.frames (frame_start (first_free d)) (filled_page P d f p); mounted = refl };
    logical = refl;
    floor = refl;
  }

  patch_same : (p offset : ℕ) (bytes : List ℕ) (d : Device) → SameBut d (patch_page f p offset bytes d)
  unfolding patch_page
  patch_same p offset bytes d = record {
    kept = record { media = refl; frames = length-overwrite d.frames (frame_start (slot_of d f p) + offset) bytes; mounted = refl };
    logical = refl;
    floor = refl;
  }

  put_same : (p offset : ℕ) (bytes : List ℕ) (d : Device) → SameBut d (put_page P f p offset bytes d)
  unfolding put_page
  put_same p offset bytes d =
      cases (is_cached d f p)
      (λ e. rw e (patch_same p offset bytes d))
      (λ e. rw e (same_trans (cache_same p d) (patch_same p offset bytes (cache_page P f p d))))

  puts_same : (n position : ℕ) (bytes : List ℕ) (d : Device) → SameBut d (put_pages P f n position bytes d).device
  puts_same zero position bytes d = same_refl d
  puts_same (suc n) position [] d = same_refl d
  puts_same (suc n) position (b ∷ bs) d =
      cases (has_slot d f (position / page_bytes))
      (λ e. rw e (same_trans (put_same (position / page_bytes) (position % page_bytes) _ d) (puts_same n _ _ _)))
      (λ e. rw e (same_refl d))

-- ---- the cases of a write

-- refused with everything as it came, or done with what the pages took
pub write_by : (P f position : ℕ) (bytes : List ℕ) (d : Device) (Q : Result Device → Type 0)
    → ((k : ℕ) → 0 < k → k ≢ 9 → Q (give (refused k) d))
    → (Admitted P d f (leb (position + length bytes) (file_bytes P)) → has_room d f position bytes ≡ true
    → let w : Written = put_pages P f P position bytes d in Q (give (done w.count) (grown f position w)))
    → Q (write P f position bytes d)
unfolding write
write_by P f position bytes d Q fails finished =
    let range : Bool = leb (position + length bytes) (file_bytes P) in
    let room : List Test = test (has_room d f position bytes) NO_ROOM ∷ [] in
    admit_by d Q (file_tests P d f range ++ room) _ (file_changeless P d f range room ((8, omega arith, λ e. (omega arith), refl), tt)) fails (λ e.
    finished (file_admitted P d f range (passed_first (file_tests P d f range) room e))
    (passed_at room (passed-rest (file_tests P d f range) room e) 0))

-- a write keeps the media, the length of the frames, and the mount
pub write_kept : (P f position : ℕ) (bytes : List ℕ) (d : Device) → Kept d (write P f position bytes d).left
unfolding grown
write_kept P f position bytes d =
    let k = (puts_same P f P position bytes d).kept in
    write_by P f position bytes d (λ r. Kept d r.left)
    (λ k lo hi. kept_all d)
    (λ ad room.
    cases (eqb (put_pages P f P position bytes d).count 0)
    (λ z. rw z k)
    (λ z. rw z (record { media = k.media; frames = k.frames; mounted = k.mounted })))

-- ---- used slots stay as they are

first_free-set : (slots : List Slot) (s : Slot) (k : ℕ) → is_free (get_or slots k free_slot) ≡ false
    → get_or (set slots (first_index is_free slots) s) k free_slot ≡ get_or slots k free_slot
first_free-set [] s k u = refl
first_free-set (z ∷ slots) s zero u = rw u
first_free-set (z ∷ slots) s (suc k) u = cases (is_free z) (λ e. rw e) (λ e. rw e (first_free-set slots s k u))

module _ (P f : ℕ) where
  put_used : (p offset : ℕ) (bytes : List ℕ) (d : Device) (k : ℕ) → is_free (get_or d.cache.slots k free_slot) ≡ false
      → get_or (put_page P f p offset bytes d).cache.slots k free_slot ≡ get_or d.cache.slots k free_slot
  unfolding put_page patch_page cache_page
  put_used p offset bytes d k u = cases (is_cached d f p) (λ e. rw e) (λ e. rw e (first_free-set d.cache.slots _ k u))

  pages-used : (n position : ℕ) (bytes : List ℕ) (d : Device) (k : ℕ) → is_free (get_or d.cache.slots k free_slot) ≡ false
      → get_or (put_pages P f n position bytes d).device.cache.slots k free_slot ≡ get_or d.cache.slots k free_slot
  pages-used zero position bytes d k u = refl
  pages-used (suc n) position [] d k u = refl
  pages-used (suc n) position (b ∷ bs) d k u =
      let p : ℕ = position / page_bytes in
      let offset : ℕ = position % page_bytes in
      let piece : List ℕ = take (page_bytes - offset) (b ∷ bs) in
      let same : get_or (put_page P f p offset piece d).cache.slots k free_slot ≡ get_or d.cache.slots k free_slot = put_used p offset piece d k u in
      cases (has_slot d f p)
      (λ e. rw e (pages-used n (page_bytes * suc p) (drop (page_bytes - offset) (b ∷ bs)) (put_page P f p offset piece d) k (rw same u) ∙ same))
      (λ e. rw e)

-- of the slots a write changes only free ones
pub write-used : (P f position : ℕ) (bytes : List ℕ) (d : Device) (k : ℕ) → is_free (get_or d.cache.slots k free_slot) ≡ false
    → get_or (write P f position bytes d).left.cache.slots k free_slot ≡ get_or d.cache.slots k free_slot
unfolding grown
write-used P f position bytes d k u =
    let e = pages-used P f P position bytes d k u in
    write_by P f position bytes d (λ r. get_or r.left.cache.slots k free_slot ≡ get_or d.cache.slots k free_slot)
    (λ _ lo hi. refl)
    (λ ad room. cases (eqb (put_pages P f P position bytes d).count 0) (λ z. rw z e) (λ z. rw z e))

-- ---- pages that a run of bytes reaches

-- of n bytes from the position on, at least one falls into page q
abbrev pub reached : ℕ → ℕ → ℕ → Bool
reached position n q = ltb (max position (page_bytes * q)) (min (position + n) (page_bytes * suc q))

or_true : (b : Bool) → b || true ≡ true
or_true true = refl
or_true false = refl

or_false : (b : Bool) → b ≡ b || false
or_false true = refl
or_false false = refl

reached_none : (position q : ℕ) (b : Bool) → b ≡ b || reached position 0 q
reached_none position q b = rw (le-ltb (max position (page_bytes * q)) (min (position + 0) (page_bytes * suc q)) (omega arith)) (or_false b)

-- k bytes into the page that the position is in, and c more from the next page on
reached_own : (position k c : ℕ) (b : Bool) → 0 < k → b || reached position (k + c) (position / page_bytes) ≡ true
reached_own position k c b h =
    rw (lt-ltb (max position (page_bytes * (position / page_bytes))) (min (position + (k + c)) (page_bytes * suc (position / page_bytes))) (omega arith)) (or_true b)

reached_more : (position k c q : ℕ) → q ≢ position / page_bytes → k ≤ page_bytes - position % page_bytes → (k < page_bytes - position % page_bytes → c ≡ 0)
    → reached (page_bytes * suc (position / page_bytes)) c q ≡ reached position (k + c) q
reached_more position k c q ne most short =
    split_lt (max (page_bytes * suc (position / page_bytes)) (page_bytes * q)) (min (page_bytes * suc (position / page_bytes) + c) (page_bytes * suc q))
    (λ l.
    split_lt k (page_bytes - position % page_bytes)
    (λ h. absurd (omega (arith, short h)))
    (λ h. rw (lt-ltb _ _ l, lt-ltb (max position (page_bytes * q)) (min (position + (k + c)) (page_bytes * suc q)) (omega arith))))
    (λ l.
    split_lt k (page_bytes - position % page_bytes)
    (λ h. rw (le-ltb _ _ l, le-ltb (max position (page_bytes * q)) (min (position + (k + c)) (page_bytes * suc q)) (omega (arith, short h))))
    (λ h. rw (le-ltb _ _ l, le-ltb (max position (page_bytes * q)) (min (position + (k + c)) (page_bytes * suc q)) (omega arith))))

module _ (P : ℕ) where
  -- what a page step needs of a device
  pub record Framed (d : Device) : Type 0 where
    pub bytes : length d.media.bytes ≡ media_bytes P
    pub frames : length d.frames ≡ frames_bytes
    pub slots : SlotsFit P d.cache.slots

  -- c is d with the n bytes of file f from a on replaced by the first of bytes
  pub record Puts (f a n : ℕ) (bytes : List ℕ) (d c : Device) : Type 0 where
    pub framed : Framed c
    pub inside : (i : ℕ) → a ≤ i → i < a + n → current_at P c f i ≡ get_or bytes (i - a) 0
    pub below : (i : ℕ) → i < a → current_at P c f i ≡ current_at P d f i
    pub above : (i : ℕ) → a + n ≤ i → current_at P c f i ≡ current_at P d f i
    pub others : (g i : ℕ) → g ≢ f → current_at P c g i ≡ current_at P d g i

  -- ---- a page that becomes cached

  length-blank : length blank_page ≡ page_bytes
  unfolding blank_page
  length-blank = length-replicate {A = ℕ} page_bytes 0

  blank-zero : (r : ℕ) → get_or blank_page r 0 ≡ 0
  unfolding blank_page
  blank-zero r = get_or-zeros page_bytes r

  module _ (d : Device) (x : Framed d) (f p : ℕ) (hf : f < files) (hp : p < P) where
    -- as many bytes of the media as lie below the floor
    n : ℕ
    n = min page_bytes (floor_at d f - page_bytes * p)

    -- the bytes of the media that it is overlaid with
    over : List ℕ
    over = part d.media.bytes (page_start P f p) n

    length_over : length over ≡ n
    unfolding n over
    length_over =
        length_part d.media.bytes (page_start P f p) (min page_bytes (floor_at d f - page_bytes * p))
        (omega (arith, file_end P f hf, page_end P p hp, x.bytes))

    length-filled : length (filled_page P d f p) ≡ page_bytes
    unfolding filled_page
    length-filled = rw length-overwrite length-blank

    filled-media : (r : ℕ) → r < page_bytes → page_bytes * p + r < floor_at d f → get_or (filled_page P d f p) r 0 ≡ byte_at P d.media f (page_bytes * p + r)
    unfolding filled_page n over
    filled-media r hr hc =
        overwrite_in blank_page 0 over r (omega arith) (omega (arith, length_over)) (omega (arith, length-blank))
        ∙ get_d_part d.media.bytes (page_start P f p) n (r - 0) (omega arith)
        ∙ ap (λ (k : ℕ). get_or d.media.bytes k 0) (omega arith)

    filled_zero : (r : ℕ) → floor_at d f ≤ page_bytes * p + r → r < page_bytes → get_or (filled_page P d f p) r 0 ≡ 0
    unfolding filled_page n over
    filled_zero r hc hr = overwrite-after blank_page 0 over r (omega (arith, length_over)) ∙ blank-zero r

    -- a page that begins at or past the floor starts as zeros
    pub blank_past_floor : floor_at d f ≤ page_bytes * p → filled_page P d f p ≡ blank_page
    unfolding filled_page
    blank_past_floor h = let z : min page_bytes (floor_at d f - page_bytes * p) ≡ 0 = omega arith in rw (z, overwrite-none)

    module _ (none : slot_count ≤ slot_of d f p) (room : first_free d < slot_count) where
      free : is_free (get_or d.cache.slots (first_free d) free_slot) ≡ true
      free = first_free_was_free d (omega (arith, x.slots.count))

      cached_slot : slot_of (cache_page P f p d) f p ≡ first_free d
      unfolding cache_page
      cached_slot =
          first-set_here (holds f p) d.cache.slots (first_free d) (used_slot f p)
          (rw (eq-eqb f f refl, eq-eqb p p refl)) (omega (arith, x.slots.count)) (omega (arith, x.slots.count))

      cached-framed : Framed (cache_page P f p d)
      unfolding cache_page
      cached-framed = record {
        bytes = x.bytes;
        frames = rw length-overwrite x.frames;
        slots = take-fit P d.cache.slots f p (first_free d) x.slots hf hp none room free;
      }

      -- its own bytes
      cached_own : (i : ℕ) → i / page_bytes ≡ p → current_at P (cache_page P f p d) f i ≡ current_at P d f i
      unfolding cache_page
      cached_own i e =
          let r : ℕ = i % page_bytes in
          let own : slot_of (cache_page P f p d) f p ≡ first_free d = cached_slot in
          let z : frame_start (first_free d) + i % page_bytes - frame_start (first_free d) ≡ i % page_bytes = omega arith in
          current-cached P (cache_page P f p d) f i p e (omega arith)
          ∙ ap (λ (j : ℕ). frame_byte (cache_page P f p d) j (i % page_bytes)) own
          ∙ overwrite_in d.frames (frame_start (first_free d)) (filled_page P d f p) (frame_start (first_free d) + i % page_bytes)
          (omega arith) (omega (arith, length-filled)) (omega (arith, x.frames))
          ∙ rw z
          (split_lt i (floor_at d f)
          (λ l.
          filled-media (i % page_bytes) (omega arith) (omega arith)
          ∙ ap (byte_at P d.media f) (omega arith)
          ∙ sym (current-media P d f i p e none l))
          (λ l. filled_zero (i % page_bytes) (omega arith) (omega arith) ∙ sym (current-zero P d f i p e none l)))

      -- the bytes of other pages
      cached_other : (g i : ℕ) → ((g ≡ f) × (i / page_bytes ≡ p) → ⊥) → current_at P (cache_page P f p d) g i ≡ current_at P d g i
      unfolding cache_page
      cached_other g i ne =
          let q : ℕ = i / page_bytes in
          let y : Slot = used_slot f p in
          current_same P d (cache_page P f p d) g i
          (first-set (holds g (i / page_bytes)) d.cache.slots (first_free d) y free_slot (holds_one f p g (i / page_bytes) y refl refl ne)
          (free-holds g (i / page_bytes) (get_or d.cache.slots (first_free d) free_slot) free))
          (λ l.
          frame_other d.frames (filled_page P d f p) (first_free d) (slot_of d g (i / page_bytes)) (frame_start (first_free d)) (i % page_bytes)
          (free-apart d (first_free d) g (i / page_bytes) free (omega (arith, x.slots.count)))
          (omega arith) (omega (arith, length-filled)) (omega arith))
          refl refl

      -- no current byte changes when a page becomes cached
      pub cached-current : (g i : ℕ) → current_at P (cache_page P f p d) g i ≡ current_at P d g i
      cached-current g i =
          split_eq g f
          (λ eg.
          split_eq (i / page_bytes) p
          (λ ep. rw eg (cached_own i ep))
          (λ ne. cached_other g i (λ e. ne e.1)))
          (λ ne. cached_other g i (λ e. ne e.0))

  -- ---- a cached page that is patched

  module _ (d : Device) (x : Framed d) (f p offset : ℕ) (bytes : List ℕ) (cached : slot_of d f p < slot_count) (fits : offset + length bytes ≤ page_bytes) where
    patch_own : (i : ℕ) → i / page_bytes ≡ p
        → current_at P (patch_page f p offset bytes d) f i ≡ get_or (overwrite d.frames (frame_start (slot_of d f p) + offset) bytes) (frame_start (slot_of d f p) + i % page_bytes) 0
    unfolding patch_page
    patch_own i e = current-cached P (patch_page f p offset bytes d) f i p e cached

    patch_other : (g i : ℕ) → ((g ≡ f) × (i / page_bytes ≡ p) → ⊥) → current_at P (patch_page f p offset bytes d) g i ≡ current_at P d g i
    unfolding patch_page
    patch_other g i ne =
        current_same P d (patch_page f p offset bytes d) g i refl
        (λ l.
        frame_other d.frames bytes (slot_of d f p) (slot_of d g (i / page_bytes)) (frame_start (slot_of d f p) + offset) (i % page_bytes)
        (slots_apart d f p g (i / page_bytes) ne (omega (arith, x.slots.count)) (omega (arith, x.slots.count)))
        (omega arith) (omega arith) (omega arith))
        refl refl

    patch_puts : Puts f (page_bytes * p + offset) (length bytes) bytes d (patch_page f p offset bytes d)
    unfolding patch_page
    patch_puts =
        let a : ℕ = frame_start (slot_of d f p) + offset in
        record {
          framed = record { bytes = x.bytes; frames = rw length-overwrite x.frames; slots = x.slots };
          inside = λ i lo hi.
              patch_own i (omega arith)
              ∙ overwrite_in d.frames a bytes (frame_start (slot_of d f p) + i % page_bytes) (omega arith) (omega arith) (omega (arith, x.frames))
              ∙ ap (λ (k : ℕ). get_or bytes k 0) (omega arith);
          below = λ i h.
              split_eq (i / page_bytes) p
              (λ e.
              patch_own i e
              ∙ overwrite-before d.frames a bytes (frame_start (slot_of d f p) + i % page_bytes) (omega arith)
              ∙ sym (current-cached P d f i p e cached))
              (λ ne. patch_other f i (λ e. ne e.1));
          above = λ i h.
              split_eq (i / page_bytes) p
              (λ e.
              patch_own i e
              ∙ overwrite-after d.frames a bytes (frame_start (slot_of d f p) + i % page_bytes) (omega arith)
              ∙ sym (current-cached P d f i p e cached))
              (λ ne. patch_other f i (λ e. ne e.1));
          others = λ g i ne. patch_other g i (λ e. ne e.0);
        }

  -- ---- one page takes its piece

  module _ (d : Device) (x : Framed d) (f p offset : ℕ) (bytes : List ℕ) (hf : f < files) (hp : p < P) (fits : offset + length bytes ≤ page_bytes) where
    pub put_page_lem : has_slot d f p ≡ true → Puts f (page_bytes * p + offset) (length bytes) bytes d (put_page P f p offset bytes d)
    unfolding put_page
    put_page_lem room =
        split_lt (slot_of d f p) slot_count
        (λ l. rw (lt-ltb _ _ l) (patch_puts d x f p offset bytes l fits))
        (λ l.
        let free : first_free d < slot_count = ltb-true _ _ (rw (le-ltb _ _ l) at room) in
        let c : Device = cache_page P f p d in
        let own : slot_of (cache_page P f p d) f p ≡ first_free d = cached_slot d x f p hf hp l free in
        let y = patch_puts (cache_page P f p d) (cached-framed d x f p hf hp l free) f p offset bytes (omega arith) fits in
        let same : (g i : ℕ) → current_at P (cache_page P f p d) g i ≡ current_at P d g i = cached-current d x f p hf hp l free in
        rw (le-ltb _ _ l)
        (record {
          framed = y.framed;
          inside = y.inside;
          below = λ i h. y.below i h ∙ same f i;
          above = λ i h. y.above i h ∙ same f i;
          others = λ g i ne. y.others g i ne ∙ same g i;
        }))

    -- it caches this page and no other
    put_cached : has_slot d f p ≡ true → is_cached (put_page P f p offset bytes d) f p ≡ true
    unfolding put_page patch_page
    put_cached room =
        split_lt (slot_of d f p) slot_count
        (λ l. rw (lt-ltb _ _ l, lt-ltb _ _ l))
        (λ l.
        let free : first_free d < slot_count = ltb-true _ _ (rw (le-ltb _ _ l) at room) in
        rw (le-ltb _ _ l, cached_slot d x f p hf hp l free, lt-ltb _ _ free))

    put_cached_other : has_slot d f p ≡ true → (g q : ℕ) → ((g ≡ f) × (q ≡ p) → ⊥) → is_cached (put_page P f p offset bytes d) g q ≡ is_cached d g q
    unfolding put_page patch_page cache_page
    put_cached_other room g q ne =
        split_lt (slot_of d f p) slot_count
        (λ l. rw (lt-ltb _ _ l))
        (λ l. rw (le-ltb _ _ l, apart (ltb-true _ _ (rw (le-ltb _ _ l) at room)) g q ne))
      where
        apart : first_free d < slot_count → (g q : ℕ) → ((g ≡ f) × (q ≡ p) → ⊥)
            → first_index (holds g q) (set d.cache.slots (first_free d) (used_slot f p)) ≡ slot_of d g q
        apart l g q ne =
            first-set (holds g q) d.cache.slots (first_free d) (used_slot f p) free_slot
            (holds_one f p g q (used_slot f p) refl refl ne)
            (free-holds g q (get_or d.cache.slots (first_free d) free_slot) (first_free_was_free d (omega (arith, x.slots.count))))

  -- ---- page after page

  puts_none : (f a : ℕ) (bytes : List ℕ) (d : Device) → Framed d → Puts f a 0 bytes d d
  puts_none f a bytes d x = record {
    framed = x;
    inside = λ i lo hi. absurd (omega arith);
    below = λ i h. refl;
    above = λ i h. refl;
    others = λ g i ne. refl;
  }

  -- the first m bytes, as far as there are, from a on; then n of the rest from b on
  puts_more : (f a m b n : ℕ) (bytes : List ℕ) (d e c : Device) → b ≡ a + m → n ≤ length (drop m bytes)
      → Puts f a (length (take m bytes)) (take m bytes) d e → Puts f b n (drop m bytes) e c
      → Puts f a (length (take m bytes) + n) bytes d c
  puts_more f a m b n bytes d e c eb hn x y =
      let lt : length (take m bytes) ≡ min m (length bytes) = length-take m bytes in
      let ld : length (drop m bytes) ≡ length bytes - m = length-drop m bytes in
      record {
        framed = y.framed;
        inside = λ i lo hi.
            split_lt i (a + length (take m bytes))
            (λ l. y.below i (omega arith) ∙ x.inside i lo l ∙ get_or-take m bytes (i - a) 0 (omega arith))
            (λ l. y.inside i (omega arith) (omega arith) ∙ get_or-drop m bytes (i - b) 0 ∙ ap (λ (j : ℕ). get_or bytes j 0) (omega arith));
        below = λ i h. y.below i (omega arith) ∙ x.below i h;
        above = λ i h.
            split_lt i b
            (λ l. y.below i l ∙ x.above i (omega arith))
            (λ l. y.above i (omega arith) ∙ x.above i (omega arith));
        others = λ g i ne. y.others g i ne ∙ x.others g i ne;
      }

  -- what is put down, and where it stops
  pub record Wrote (f position : ℕ) (bytes : List ℕ) (d : Device) (w : Written) : Type 0 where
    pub most : w.count ≤ length bytes
    pub puts : Puts f position w.count bytes d w.device
    -- a page of the file is cached that was, or that a byte was put into
    pub cached : (q : ℕ) → is_cached w.device f q ≡ is_cached d f q || reached position w.count q
    pub cached_other : (g q : ℕ) → g ≢ f → is_cached w.device g q ≡ is_cached d g q

  pub put_pages_lem : (f : ℕ) → f < files → (n position : ℕ) (bytes : List ℕ) (d : Device) → Framed d → position + length bytes ≤ file_bytes P
      → Wrote f position bytes d (put_pages P f n position bytes d)
  put_pages_lem f hf zero position bytes d x fit = record { most = omega arith; puts = puts_none f position bytes d x; cached = λ q. reached_none position q (is_cached d f q); cached_other = λ g q ne. refl }
  put_pages_lem f hf (suc n) position [] d x fit = record { most = omega arith; puts = puts_none f position [] d x; cached = λ q. reached_none position q (is_cached d f q); cached_other = λ g q ne. refl }
  put_pages_lem f hf (suc n) position (b ∷ bs) d x fit =
      let bytes : List ℕ = b ∷ bs in
      let p : ℕ = position / page_bytes in
      let offset : ℕ = position % page_bytes in
      let m : ℕ = page_bytes - position % page_bytes in
      let at : page_bytes * (position / page_bytes) + position % page_bytes ≡ position = omega arith in
      cases (has_slot d f (position / page_bytes))
      (λ e. rw e
      (let l : length (take m (b ∷ bs)) ≡ min m (length (b ∷ bs)) = length-take m (b ∷ bs) in
      let ld : length (drop m (b ∷ bs)) ≡ length (b ∷ bs) - m = length-drop m (b ∷ bs) in
      let one : Puts f position (length (take m (b ∷ bs))) (take m (b ∷ bs)) d (put_page P f p offset (take m (b ∷ bs)) d) =
      rw at at (put_page_lem d x f p offset (take m (b ∷ bs)) hf (omega arith) (omega arith) e) in
      let rest = put_pages_lem f hf n (page_bytes * suc p) (drop m (b ∷ bs)) (put_page P f p offset (take m (b ∷ bs)) d) one.framed (omega arith) in
      record {
        most = omega (arith, rest.most);
        puts = puts_more f position m (page_bytes * suc p) _ (b ∷ bs) d _ _ (omega arith) rest.most one rest.puts;
        cached = λ q.
            rest.cached q
            ∙ split_eq q (position / page_bytes)
            (λ eq.
            rw (eq, put_cached d x f p offset (take m (b ∷ bs)) hf (omega arith) (omega arith) e)
            (sym (reached_own position (length (take m (b ∷ bs))) _ (is_cached d f p) (omega arith))))
            (λ ne.
            rw (put_cached_other d x f p offset (take m (b ∷ bs)) hf (omega arith) (omega arith) e f q (λ z. ne z.1))
            (ap (λ (y : Bool). is_cached d f q || y)
            (reached_more position (length (take m (b ∷ bs))) _ q ne (omega arith) (λ h. (omega (arith, rest.most))))));
        cached_other = λ g q ne.
            rest.cached_other g q ne ∙ put_cached_other d x f p offset (take m (b ∷ bs)) hf (omega arith) (omega arith) e g q (λ z. ne z.0);
      }))
      (λ e. rw e (record { most = omega arith; puts = puts_none f position (b ∷ bs) d x; cached = λ q. reached_none position q (is_cached d f q); cached_other = λ g q ne. refl }))

  -- it stops only where the rest would be NO ROOM: at the start of a page that is not cached and has no slot
  pub record Stopped (f position : ℕ) (bytes : List ℕ) (w : Written) : Type 0 where
    pub short : w.count < length bytes
    pub at_page : 0 < w.count → (position + w.count) % page_bytes ≡ 0
    pub no_room : has_room w.device f (position + w.count) (drop w.count bytes) ≡ false

  -- n pages are enough
  pub write_stops : (f n position : ℕ) (bytes : List ℕ) (d : Device) → position + length bytes ≤ page_bytes * (position / page_bytes + n)
      → ((put_pages P f n position bytes d).count ≡ length bytes) ⊎ Stopped f position bytes (put_pages P f n position bytes d)
  write_stops f zero position bytes d enough = inl (omega arith)
  write_stops f (suc n) position [] d enough = inl refl
  write_stops f (suc n) position (b ∷ bs) d enough =
      let p : ℕ = position / page_bytes in
      let offset : ℕ = position % page_bytes in
      let m : ℕ = page_bytes - position % page_bytes in
      let lt : length (take m (b ∷ bs)) ≡ min m (length (b ∷ bs)) = length-take m (b ∷ bs) in
      let ld : length (drop m (b ∷ bs)) ≡ length (b ∷ bs) - m = length-drop m (b ∷ bs) in
      cases (has_slot d f (position / page_bytes))
      (λ e. rw e
      (elim (write_stops f n (page_bytes * suc p) (drop m (b ∷ bs)) (put_page P f p offset (take m (b ∷ bs)) d) (omega arith)) [
        | inl h ↦ inl (omega arith)
        | inr s ↦ inr (further f position m (page_bytes * suc p) (b ∷ bs) _ (omega arith) (omega arith) s)
      ]))
      (λ e. rw e (inr (record { short = omega arith; at_page = λ h. absurd (omega arith); no_room = rw add-zero e })))
    where
      further : (f a m c : ℕ) (bytes : List ℕ) (w : Written) → c ≡ a + m → c % page_bytes ≡ 0 → Stopped f c (drop m bytes) w
          → Stopped f a bytes (and_more (length (take m bytes)) w)
      further f a m c bytes w ec z s =
          let lt : length (take m bytes) ≡ min m (length bytes) = length-take m bytes in
          let ld : length (drop m bytes) ≡ length bytes - m = length-drop m bytes in
          let k : length (take m bytes) ≡ m = omega (arith, s.short) in
          let same : a + (m + w.count) ≡ c + w.count = omega arith in
          record {
            short = omega (arith, s.short);
            at_page = λ h. rw (k, same) (split_eq w.count 0 (λ e. (omega arith)) (λ ne. s.at_page (omega arith)));
            no_room = rw (k, same, ← drop-drop) s.no_room;
          }

  -- with room for its first page a write puts down at least a byte
  pub write_some : (f n position : ℕ) (bytes : List ℕ) (d : Device) → 0 < n → 0 < length bytes → has_room d f position bytes ≡ true
      → 0 < (put_pages P f n position bytes d).count
  write_some f zero position bytes d h l room = absurd (omega arith)
  write_some f (suc n) position [] d h l room = absurd (omega arith)
  write_some f (suc n) position (b ∷ bs) d h l room =
      rw room (omega (arith, length-take (page_bytes - position % page_bytes) (b ∷ bs)))

  -- ---- the whole write

  -- what a write that puts down n bytes leaves
  pub record Leaves (f position n : ℕ) (bytes : List ℕ) (d c : Device) : Type 0 where
    pub media : c.media ≡ d.media
    pub mounted : c.cache.mounted ≡ d.cache.mounted
    pub fit : Fit P c
    pub frames : length c.frames ≡ frames_bytes
    pub floor : (g : ℕ) → floor_at c g ≡ floor_at d g
    pub logical : logical_at c f ≡ cond (eqb n 0) (logical_at d f) (max (logical_at d f) (position + n))
    pub logical_other : (g : ℕ) → g ≢ f → logical_at c g ≡ logical_at d g
    pub inside : (i : ℕ) → position ≤ i → i < position + n → current_at P c f i ≡ get_or bytes (i - position) 0
    pub below : (i : ℕ) → i < position → current_at P c f i ≡ current_at P d f i
    pub above : (i : ℕ) → position + n ≤ i → current_at P c f i ≡ current_at P d f i
    pub others : (g i : ℕ) → g ≢ f → current_at P c g i ≡ current_at P d g i
    -- a page of the file is cached that was, or that a byte was put into
    pub cached : (q : ℕ) → is_cached c f q ≡ is_cached d f q || reached position n q
    pub cached_other : (g q : ℕ) → g ≢ f → is_cached c g q ≡ is_cached d g q

  module _ (d : Device) (x : Fit P d) (f position : ℕ) (bytes : List ℕ) (w : Written) (hf : f < files) (wrote : Wrote f position bytes d w)
      (s : SameBut d w.device) (fits : position + length bytes ≤ file_bytes P) where
    -- the sizes of the device that the pages were put into
    sizes-before : SizesFit P w.device.cache.logical w.device.cache.floor w.device.media.sizes
    sizes-before = rw (s.kept.media, s.logical, s.floor) x.sizes

    grown-leaves : Leaves f position w.count bytes d (grown f position w)
    unfolding grown current_at
    grown-leaves =
        let p = wrote.puts in
        let z = sizes-before in
        let l : logical_at w.device f ≡ logical_at d f = ap (λ (k : List ℕ). get_or k f 0) s.logical in
        split_eq w.count 0
        (λ e. rw (eq-eqb w.count 0 e)
        (record {
          media = s.kept.media;
          mounted = s.kept.mounted;
          fit = record { bytes = p.framed.bytes; slots = p.framed.slots; sizes = z };
          frames = p.framed.frames;
          floor = λ g. ap (λ (k : List ℕ). get_or k g 0) s.floor;
          logical = rw (eq-eqb w.count 0 e) l;
          logical_other = λ g ne. ap (λ (k : List ℕ). get_or k g 0) s.logical;
          inside = p.inside;
          below = p.below;
          above = p.above;
          others = p.others;
          cached = wrote.cached;
          cached_other = wrote.cached_other;
        }))
        (λ ne.
        let m : ℕ = max (logical_at w.device f) (position + w.count) in
        let hl : f < length w.device.cache.logical = omega (arith, z.logical_count) in
        rw (ne_eqb w.count 0 ne)
        (record {
          media = s.kept.media;
          mounted = s.kept.mounted;
          fit = record {
            bytes = p.framed.bytes;
            slots = p.framed.slots;
            sizes = logical-fit P _ _ _ z f hf m (omega (arith, z.floor_logical f hf)) (omega (arith, z.logical_fits f hf, wrote.most));
          };
          frames = p.framed.frames;
          floor = λ g. ap (λ (k : List ℕ). get_or k g 0) s.floor;
          logical =
              rw (ne_eqb w.count 0 ne)
              (get_or-set_same w.device.cache.logical f m 0 hl ∙ ap (λ (k : ℕ). max k (position + w.count)) l);
          logical_other = λ g d. get_or-set_other w.device.cache.logical f g m 0 d ∙ ap (λ (k : List ℕ). get_or k g 0) s.logical;
          inside = p.inside;
          below = p.below;
          above = p.above;
          others = p.others;
          cached = wrote.cached;
          cached_other = wrote.cached_other;
        }))

  -- a write that is admitted
  pub write-leaves : (d : Device) → Fit P d → length d.frames ≡ frames_bytes → (f position : ℕ) (bytes : List ℕ) → f < files
      → position + length bytes ≤ file_bytes P
      → ((put_pages P f P position bytes d).count ≤ length bytes)
      × Leaves f position (put_pages P f P position bytes d).count bytes d (grown f position (put_pages P f P position bytes d))
  write-leaves d x frames f position bytes hf fits =
      let w = put_pages_lem f hf P position bytes d (record { bytes = x.bytes; frames = frames; slots = x.slots }) fits in
      (w.most, grown-leaves d x f position bytes (put_pages P f P position bytes d) hf w (puts_same P f P position bytes d) fits)

  -- the size has no part in whether there is room
  pub grown-room : (f position : ℕ) (w : Written) (g at : ℕ) (bytes : List ℕ) → has_room (grown f position w) g at bytes ≡ has_room w.device g at bytes
  unfolding grown
  grown-room f position w g at [] = refl
  grown-room f position w g at (b ∷ bs) = cases (eqb w.count 0) (λ e. rw e) (λ e. rw e)

-- ---- one page of a write

module _ (P f p : ℕ) (d : Device) where
  -- the slot that the page has taken
  pub cached_in_lem : length d.cache.slots ≡ slot_count → slot_count ≤ slot_of d f p → first_free d < slot_count → slot_of (cache_page P f p d) f p ≡ first_free d
  unfolding cache_page
  cached_in_lem l none room =
      first-set_here (holds f p) d.cache.slots (first_free d) (used_slot f p)
      (rw (eq-eqb f f refl, eq-eqb p p refl)) (omega arith) (omega arith)

  -- the page is cached in slot k, and is patched there
  pub put_cached_in : (k offset : ℕ) (bytes : List ℕ) → k ≡ slot_of d f p → k < slot_count
      → device_of d.media (overwrite d.frames (frame_start k + offset) bytes) d.cache ≡ put_page P f p offset bytes d
  unfolding put_page patch_page
  put_cached_in k offset bytes e h = let l : slot_of d f p < slot_count = omega arith in rw (lt-ltb _ _ l, e)

  pub put_new : (offset : ℕ) (bytes : List ℕ) → slot_count ≤ slot_of d f p → put_page P f p offset bytes d ≡ patch_page f p offset bytes (cache_page P f p d)
  unfolding put_page
  put_new offset bytes h = rw (le-ltb _ _ h)

  -- the page has taken slot j, and is patched there
  pub put_new_in : (m : Media) (frames : List ℕ) (s : CacheState) (j offset : ℕ) (bytes : List ℕ) → device_of m frames s ≡ cache_page P f p d → j ≡ first_free d
      → length d.cache.slots ≡ slot_count → slot_count ≤ slot_of d f p → first_free d < slot_count
      → device_of m (overwrite frames (frame_start j + offset) bytes) s ≡ put_page P f p offset bytes d
  unfolding patch_page
  put_new_in m frames s j offset bytes e ej l none room =
      let q : first_index (holds f p) s.slots ≡ j = ap (λ (c : Device). slot_of c f p) e ∙ cached_in_lem l none room ∙ sym ej in
      rw (put_new offset bytes none, ← e, q)

-- ---- the pages of a write

module _ (P f : ℕ) where
  -- nothing is left, or the page has no slot
  pub pages-none : (n position : ℕ) (bytes : List ℕ) (d : Device) → length bytes ≡ 0 → put_pages P f n position bytes d ≡ record { device = d; count = 0 }
  pages-none zero position bytes d e = refl
  pages-none (suc n) position [] d e = refl
  pages-none (suc n) position (b ∷ bs) d e = absurd (omega arith)

  pub pages-stop : (n position : ℕ) (bytes : List ℕ) (d : Device) → has_slot d f (position / page_bytes) ≡ false → put_pages P f n position bytes d ≡ record { device = d; count = 0 }
  pages-stop zero position bytes d e = refl
  pages-stop (suc n) position [] d e = refl
  pages-stop (suc n) position (b ∷ bs) d e = rw e

  -- a page takes its piece, of k bytes
  pub pages-next : (n position : ℕ) (bytes : List ℕ) (d : Device) (k : ℕ) → 0 < length bytes → has_slot d f (position / page_bytes) ≡ true
      → k ≡ min (page_bytes - position % page_bytes) (length bytes)
      → put_pages P f (suc n) position bytes d
      ≡ and_more k (put_pages P f n (position + k) (drop k bytes) (put_page P f (position / page_bytes) (position % page_bytes) (take k bytes) d))
  pages-next n position [] d k h e ek = absurd (omega arith)
  pages-next n position (b ∷ bs) d k h e ek =
      let m : ℕ = page_bytes - position % page_bytes in
      let lt : length (take m (b ∷ bs)) ≡ min m (length (b ∷ bs)) = length-take m (b ∷ bs) in
      split_lt m (length (b ∷ bs))
      (λ l.
      let q : k ≡ m = omega arith in
      let r : length (take m (b ∷ bs)) ≡ m = omega arith in
      let t : position + (page_bytes - position % page_bytes) ≡ page_bytes * suc (position / page_bytes) = omega arith in
      rw (e, q, r, t))
      (λ l.
      let q : k ≡ length (b ∷ bs) = omega arith in
      let a : take m (b ∷ bs) ≡ take k (b ∷ bs) = take_all m (b ∷ bs) l ∙ sym (take_all k (b ∷ bs) (omega arith)) in
      let z : length (drop m (b ∷ bs)) ≡ 0 = length-drop m (b ∷ bs) ∙ omega arith in
      let y : length (drop k (b ∷ bs)) ≡ 0 = length-drop k (b ∷ bs) ∙ omega arith in
      rw (e, a, pages-none n _ (drop m (b ∷ bs)) _ z, pages-none n _ (drop k (b ∷ bs)) _ y, length-take k (b ∷ bs))
      (ap (λ (j : ℕ). record { device = put_page P f (position / page_bytes) (position % page_bytes) (take k (b ∷ bs)) d; count = j + 0 }) (omega arith)))

-- ---- the ends of a write

-- a write of no bytes leaves the device as it came
pub write-idle : (P f position : ℕ) (d : Device) → (write P f position [] d).left ≡ d
unfolding grown
write-idle P f position d =
    write_by P f position [] d (λ r. r.left ≡ d) (λ k lo hi. refl) (λ ad room. rw (pages-none P f P position [] d refl))

-- no more bytes are put down than there are
pub pages_most : (P f n position : ℕ) (bytes : List ℕ) (d : Device) → (put_pages P f n position bytes d).count ≤ length bytes
pages_most P f zero position bytes d = omega arith
pages_most P f (suc n) position [] d = omega arith
pages_most P f (suc n) position (b ∷ bs) d =
    let p : ℕ = position / page_bytes in
    let m : ℕ = page_bytes - position % page_bytes in
    let piece : List ℕ = take m (b ∷ bs) in
    cases (has_slot d f p)
    (λ e. rw e
    (omega (
      arith,
      length-take m (b ∷ bs),
      length-drop m (b ∷ bs),
      pages_most P f n (page_bytes * suc p) (drop m (b ∷ bs)) (put_page P f p (position % page_bytes) piece d),
    )))
    (λ e. rw e (omega arith))

module _ (P f position : ℕ) (bytes : List ℕ) (d : Device) where
  ts : List Test
  ts = file_tests P d f (leb (position + length bytes) (file_bytes P))

  room : List Test
  room = test (has_room d f position bytes) NO_ROOM ∷ []

  pub write-refused : (x : Refusal) → coded_refusal x ≡ first_refusal (file_tests P d f (leb (position + length bytes) (file_bytes P))) (done 0)
      → give (coded_refusal x) d ≡ write P f position bytes d
  unfolding write ts room
  write-refused x e = admit-refused (ts ++ room) d _ x (first-refused ts room (done 0) (done 0) x refl e)

  room_of : 0 < length bytes → has_room d f position bytes ≡ has_slot d f (position / page_bytes)
  room_of h = go bytes h
    where
      go : (l : List ℕ) → 0 < length l → has_room d f position l ≡ has_slot d f (position / page_bytes)
      go [] h = absurd (omega arith)
      go (b ∷ bs) h = refl

  room-empty : length bytes ≡ 0 → has_room d f position bytes ≡ true
  room-empty h = go bytes h
    where
      go : (l : List ℕ) → length l ≡ 0 → has_room d f position l ≡ true
      go [] h = refl
      go (b ∷ bs) h = absurd (omega arith)

  module _ (h : passed (file_tests P d f (leb (position + length bytes) (file_bytes P))) ≡ true) where
    all_passed : has_room d f position bytes ≡ true → passed (ts ++ room) ≡ true
    unfolding ts room
    all_passed e = passed-join ts room h (rw e)

    -- nothing was put down: the first page has no slot
    pub write-full : 0 < length bytes → 0 < P → (w : Written) → w ≡ put_pages P f P position bytes d → w.count ≡ 0
        → give NO_ROOM w.device ≡ write P f position bytes d
    unfolding write ts room
    write-full l hp w ew ez =
        let e : has_slot d f (position / page_bytes) ≡ false = is_false (has_slot d f (position / page_bytes)) (λ t.
        absurd (omega (arith, write_some P f P position bytes d hp l (room_of l ∙ t), ap (λ (v : Written). v.count) ew))) in
        let q : has_room d f position bytes ≡ false = room_of l ∙ e in
        let same : w.device ≡ d = ap (λ (v : Written). v.device) (ew ∙ pages-stop P f P position bytes d e) in
        rw same (admit-refused (ts ++ room) d _ NoRoom (sym (first-join ts room (done 0) ∙ first_all ts _ h ∙ rw q)))

    pub write-empty : length bytes ≡ 0 → give (done 0) d ≡ write P f position bytes d
    unfolding write ts room grown
    write-empty l = rw (pages-none P f P position bytes d l) (admit-passed (ts ++ room) d _ (all_passed (room-empty l)))

    pub write_done : 0 < length bytes → (w : Written) → w ≡ put_pages P f P position bytes d → w.count ≢ 0
        → give (done w.count) (device_of w.device.media w.device.frames (with_logical w.device.cache f (max (logical_at w.device f) (position + w.count))))
        ≡ write P f position bytes d
    unfolding write ts room grown
    write_done l w ew some =
        let e : has_slot d f (position / page_bytes) ≡ true =
        cases (has_slot d f (position / page_bytes)) (λ t. t) (λ t. absurd (some (ap (λ (v : Written). v.count) (ew ∙ pages-stop P f P position bytes d t)))) in
        let q : has_room d f position bytes ≡ true = room_of l ∙ e in
        rw (← ew) (rw (ne_eqb _ _ some) (admit-passed (ts ++ room) d _ (all_passed q)))
