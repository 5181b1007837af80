-- What a truncate does to the current bytes and the sizes.
use mathlib.Core.Path.{◌≡◌, refl, sym, ◌∙◌}
use mathlib.Core.Logic.{◌≢◌}
use mathlib.Core.Bool.{Bool, true, false, ◌&&◌}
use mathlib.Core.List.{List, [], map}
use Prim.Native.Nat.{ℕ, ◌+◌, ◌-◌, ◌*◌, ◌/◌, ◌%◌, ◌≤◌, ◌<◌, min}
use native.Mathlib.Omega.{arith}
use lib.Dec.{leb, ltb}
use lib.ListN.{length, get_or, length-map, length-replicate, get_or-map}
use lib.Seq.{get_or-set_same, get_or-set_other}
use borrow.Table.Steps.{cases}
use borrow.Author.Tests.{eq-eqb, ne_eqb, lt-ltb, le-ltb, le-leb, lt-leb}
use Rattle.answer.specs.Coded.{refused, done, coded_refusal}
use Rattle.answer.specs.Admission.{first_refusal}
use Rattle.answer.proofs.Admission.{passed}
use Rattle.answer.specs.declared.Refusal.{Refusal}
use Rattle.memory.specs.Bytes.{zeros, overwrite}
use Rattle.memory.proofs.Cases.{split_lt, split_eq}
use Rattle.memory.proofs.Bytes.{get_or-zeros, length-overwrite, overwrite-before, overwrite_in}
use Rattle.scan.proofs.Scan.{and-true}
use Rattle.media.specs.Geometry.{files, page_bytes, file_bytes}
use Rattle.device.specs.Device.{Device, slot_count, frames_bytes, frame_start, free_slot, slot_of, is_cached, free_where, logical_at, floor_at, device_of, with_slots}
use Rattle.device.specs.Current.{frame_byte, current_at}
use Rattle.device.specs.Admission.{Result, give, file_tests}
use Rattle.device.specs.Truncating.{pages_from, clear_tail, with_sizes, truncated, truncate}
use Rattle.device.proofs.Device.{slot_gone, slot_stays, slots_apart, frame_other, Kept, kept_all}
use Rattle.device.proofs.Current.{current-cached, current-zero, current_like}
use Rattle.device.proofs.Admission.{Admitted, file_by, admit-refused, admit-passed}
use Rattle.device.proofs.Sound.{Fit, freed_fit, sizes_fit_lem}
use Rattle.device.specs.Sizes.{truncated_sizes}
use Rattle.device.specs.Sound.{sizes_beside}
use Rattle.device.specs.declared.CacheState.{CacheState}

-- refused with everything as it came, or done
pub truncate_by : (P f n : ℕ) (d : Device) (Q : Result Device → Type 0)
    → ((k : ℕ) → 0 < k → k ≢ 9 → Q (give (refused k) d))
    → (Admitted P d f (leb n (file_bytes P)) → Q (give (done 0) (truncated f n d)))
    → Q (truncate P f n d)
unfolding truncate
truncate_by P f n d Q fails finished = file_by P d Q f (leb n (file_bytes P)) d _ fails finished

-- exactly the slots of pages that begin at or past n are freed
pub truncated-slots : (f n : ℕ) (d : Device) (k : ℕ)
    → get_or (truncated f n d).cache.slots k free_slot ≡ free_where (pages_from f n) (get_or d.cache.slots k free_slot)
unfolding truncated clear_tail with_sizes free_where
truncated-slots f n d k = get_or-map (free_where (pages_from f n)) d.cache.slots k free_slot

-- a truncate keeps the media, the length of the frames, and the mount
pub truncate-kept : (P f n : ℕ) (d : Device) → Kept d (truncate P f n d).left
unfolding truncated clear_tail with_sizes
truncate-kept P f n d =
    truncate_by P f n d (λ r. Kept d r.left)
    (λ k lo hi. kept_all d)
    (λ ad. record {
      media = refl;
      frames = cases (is_cached (truncated f n d) f (n / page_bytes)) (λ e. rw (e, length-overwrite)) (λ e. rw e);
      mounted = refl;
    })

module _ (P : ℕ) (d : Device) (x : Fit P d) (frames : length d.frames ≡ frames_bytes) (f n : ℕ) (hf : f < files) where
  -- the device after it
  abbrev c : Device
  c = truncated f n d

  -- ---- sizes

  pub truncated-logical : logical_at (truncated f n d) f ≡ n
  unfolding truncated clear_tail with_sizes
  truncated-logical = get_or-set_same d.cache.logical f n 0 (omega (arith, x.sizes.logical_count))

  -- the floor is the smallest so far
  pub truncated-floor : floor_at (truncated f n d) f ≡ min (floor_at d f) n
  unfolding truncated clear_tail with_sizes
  truncated-floor = get_or-set_same d.cache.floor f (min (floor_at d f) n) 0 (omega (arith, x.sizes.floor_count))

  pub truncated_sizes_other : (g : ℕ) → g ≢ f → (logical_at (truncated f n d) g ≡ logical_at d g) × (floor_at (truncated f n d) g ≡ floor_at d g)
  unfolding truncated clear_tail with_sizes
  truncated_sizes_other g ne =
      (get_or-set_other d.cache.logical f g n 0 ne, get_or-set_other d.cache.floor f g (min (floor_at d f) n) 0 ne)

  pub truncated-fit : n ≤ file_bytes P → Fit P (truncated f n d)
  unfolding truncated clear_tail with_sizes
  truncated-fit h = record {
    bytes = x.bytes;
    slots = freed_fit P d.cache.slots (pages_from f n) x.slots;
    sizes =
        sizes_fit_lem P d.cache.logical d.cache.floor d.media.sizes x.sizes f hf n (min (floor_at d f) n)
        (omega arith) h (omega (arith, x.sizes.floor_stored f hf));
  }

  pub truncated-media : (truncated f n d).media ≡ d.media
  unfolding truncated clear_tail
  truncated-media = refl

  -- ---- slots

  -- a page of another file, or one that begins below n, stays where it is
  slot_kept : (g q : ℕ) → (g ≡ f → page_bytes * q < n) → slot_of (truncated f n d) g q ≡ slot_of d g q
  unfolding truncated clear_tail with_sizes
  slot_kept g q h =
      slot_stays (pages_from f n) g q d.cache.slots
      (split_eq g f (λ e. rw (eq-eqb _ _ e, lt-leb _ _ (h e))) (λ ne. rw (ne_eqb _ _ ne)))

  -- one that begins at or past n is freed
  slot_freed : (q : ℕ) → n ≤ page_bytes * q → slot_of (truncated f n d) f q ≡ slot_count
  unfolding truncated clear_tail with_sizes
  slot_freed q h = slot_gone (pages_from f n) f q d.cache.slots (rw (eq-eqb f f refl, le-leb _ _ h)) ∙ x.slots.count

  -- a page is cached that was, and of file f only where it begins below n
  pub truncated-cached : (q : ℕ) → is_cached (truncated f n d) f q ≡ is_cached d f q && ltb (page_bytes * q) n
  truncated-cached q =
      split_lt (page_bytes * q) n
      (λ l. rw (slot_kept f q (λ _. l), lt-ltb _ _ l) (sym (and-true (is_cached d f q))))
      (λ l. rw (slot_freed q l, le-ltb _ _ l) (and-false (is_cached d f q)))
    where
      and-false : (b : Bool) → false ≡ b && false
      and-false true = refl
      and-false false = refl

  pub truncated-cached_other : (g q : ℕ) → g ≢ f → is_cached (truncated f n d) g q ≡ is_cached d g q
  truncated-cached_other g q ne = rw (slot_kept g q (λ e. absurd (ne e)))

  slots-count : length (truncated f n d).cache.slots ≡ slot_count
  unfolding truncated clear_tail with_sizes
  slots-count = length-map d.cache.slots (free_where (pages_from f n)) ∙ x.slots.count

  -- ---- frames

  tail : ℕ
  tail = page_bytes - n % page_bytes

  tail_length : length (zeros tail) ≡ page_bytes - n % page_bytes
  unfolding tail
  tail_length = length-replicate {A = ℕ} (page_bytes - n % page_bytes) 0

  cut : ℕ
  cut = frame_start (slot_of (truncated f n d) f (n / page_bytes)) + n % page_bytes

  frames-cut : slot_of (truncated f n d) f (n / page_bytes) < slot_count → (truncated f n d).frames ≡ overwrite d.frames cut (zeros tail)
  unfolding truncated clear_tail with_sizes tail cut
  frames-cut l = rw (lt-ltb _ _ l)

  frames-kept : slot_count ≤ slot_of (truncated f n d) f (n / page_bytes) → (truncated f n d).frames ≡ d.frames
  unfolding truncated clear_tail with_sizes
  frames-kept l = rw (le-ltb _ _ l)

  -- the frame bytes of other pages, and those below n, stay
  byte-kept : (g i : ℕ) → (g ≡ f → i < n) → slot_of (truncated f n d) g (i / page_bytes) < slot_count
      → frame_byte (truncated f n d) (slot_of (truncated f n d) g (i / page_bytes)) (i % page_bytes) ≡ frame_byte d (slot_of (truncated f n d) g (i / page_bytes)) (i % page_bytes)
  unfolding tail cut
  byte-kept g i lt hk =
      let k : ℕ = slot_of (truncated f n d) g (i / page_bytes) in
      let j : ℕ = slot_of (truncated f n d) f (n / page_bytes) in
      split_lt j slot_count
      (λ l.
      let apart : ((g ≡ f) × (i / page_bytes ≡ n / page_bytes) → ⊥)
      → get_or (overwrite d.frames cut (zeros tail)) (frame_start k + i % page_bytes) 0 ≡ frame_byte d k (i % page_bytes) =
      λ ne. frame_other d.frames (zeros tail) j k cut (i % page_bytes)
      (slots_apart (truncated f n d) f (n / page_bytes) g (i / page_bytes) ne (omega (arith, slots-count)) (omega (arith, slots-count)))
      (omega arith) (omega (arith, tail_length)) (omega arith) in
      rw (frames-cut l)
      (split_eq g f
      (λ eg.
      split_eq (i / page_bytes) (n / page_bytes)
      (λ eq.
      let same : k ≡ j = rw (eg, eq) in
      let lt' : i < n = lt eg in
      overwrite-before d.frames cut (zeros tail) (frame_start k + i % page_bytes) (omega arith))
      (λ ne. apart (λ e. ne e.1)))
      (λ ne. apart (λ e. ne e.0))))
      (λ l. rw (frames-kept l))

  -- ---- current bytes

  -- those below n stay
  pub truncated-below : (i : ℕ) → i < n → current_at P (truncated f n d) f i ≡ current_at P d f i
  truncated-below i h =
      let es : slot_of (truncated f n d) f (i / page_bytes) ≡ slot_of d f (i / page_bytes) = slot_kept f (i / page_bytes) (λ _. (omega arith)) in
      let ec : floor_at (truncated f n d) f ≡ min (floor_at d f) n = truncated-floor in
      current_like P d (truncated f n d) f i es
      (λ l. rw es at (byte-kept f i (λ _. h) (rw es l)))
      (λ l. omega arith) (λ l. omega arith) (rw truncated-media)

  -- those from n on are 0
  pub truncated_past : (i : ℕ) → n ≤ i → current_at P (truncated f n d) f i ≡ 0
  unfolding tail cut
  truncated_past i h =
      let ec : floor_at (truncated f n d) f ≡ min (floor_at d f) n = truncated-floor in
      split_lt (slot_of (truncated f n d) f (i / page_bytes)) slot_count
      (λ l.
      split_lt (page_bytes * (i / page_bytes)) n
      (λ a.
      let eq : i / page_bytes ≡ n / page_bytes = omega arith in
      let l' : slot_of (truncated f n d) f (n / page_bytes) < slot_count = rw eq at l in
      current-cached P (truncated f n d) f i (n / page_bytes) eq l'
      ∙ rw (frames-cut l')
      (overwrite_in d.frames cut (zeros tail) (frame_start (slot_of (truncated f n d) f (n / page_bytes)) + i % page_bytes)
      (omega arith) (omega (arith, tail_length)) (omega (arith, frames))
      ∙ get_or-zeros tail _))
      (λ a. absurd (omega (arith, slot_freed (i / page_bytes) a))))
      (λ l. current-zero P (truncated f n d) f i (i / page_bytes) refl l (omega arith))

  -- other files stay
  pub truncated_other : (g i : ℕ) → g ≢ f → current_at P (truncated f n d) g i ≡ current_at P d g i
  truncated_other g i ne =
      let es : slot_of (truncated f n d) g (i / page_bytes) ≡ slot_of d g (i / page_bytes) = slot_kept g (i / page_bytes) (λ e. absurd (ne e)) in
      let ec : floor_at (truncated f n d) g ≡ floor_at d g = (truncated_sizes_other g ne).1 in
      current_like P d (truncated f n d) g i es
      (λ l. rw es at (byte-kept g i (λ e. absurd (ne e)) (rw es l)))
      (λ l. omega arith) (λ l. omega arith) (rw truncated-media)

-- ---- the ends of a truncate

module _ (P f n : ℕ) (d : Device) where
  pub truncate-refused : (x : Refusal) → coded_refusal x ≡ first_refusal (file_tests P d f (leb n (file_bytes P))) (done 0) → give (coded_refusal x) d ≡ truncate P f n d
  unfolding truncate
  truncate-refused x e = admit-refused (file_tests P d f (leb n (file_bytes P))) d _ x e

  pub truncate-done : (frames : List ℕ) (s : CacheState) → passed (file_tests P d f (leb n (file_bytes P))) ≡ true
      → s ≡ with_sizes f (truncated_sizes n (sizes_beside [] d.cache f)) (with_slots d.cache (map (free_where (pages_from f n)) d.cache.slots))
      → device_of d.media frames s ≡ clear_tail f n (device_of d.media d.frames s)
      → give (done 0) (device_of d.media frames s) ≡ truncate P f n d
  unfolding truncate truncated with_sizes
  truncate-done frames s h es e = rw (e, es) (admit-passed (file_tests P d f (leb n (file_bytes P))) d _ h)

module _ (d : Device) (f n k : ℕ) (e : k ≡ slot_of d f (n / page_bytes)) where
  pub tail_cleared : (frames : List ℕ) → k < slot_count → frames ≡ overwrite d.frames (frame_start k + n % page_bytes) (zeros (page_bytes - n % page_bytes))
      → device_of d.media frames d.cache ≡ clear_tail f n d
  unfolding clear_tail
  tail_cleared frames h ef = let l : slot_of d f (n / page_bytes) < slot_count = omega arith in rw (lt-ltb _ _ l, ← e, ef)

  pub tail_none : slot_count ≤ k → d ≡ clear_tail f n d
  unfolding clear_tail
  tail_none h = let l : slot_count ≤ slot_of d f (n / page_bytes) = omega arith in rw (le-ltb _ _ l)
