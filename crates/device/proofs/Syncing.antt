-- What a sync leaves on the media: cut after some writes, or done.
use mathlib.Core.Path.{◌≡◌, refl, sym, ap, ◌∙◌}
use mathlib.Core.Logic.{◌≢◌, ◌⊎◌, inl, inr}
use mathlib.Core.Bool.{true, false, cond, not}
use mathlib.Core.List.{List, [], ◌∷◌, ◌++◌, map, append-nil, append_assoc}
use Prim.Native.Nat.{ℕ, zero, suc, ◌+◌, ◌-◌, ◌*◌, ◌/◌, ◌%◌, ◌≤◌, ◌<◌}
use native.Mathlib.Nat.{le_of_suc-le-suc}
use native.Mathlib.Omega.{arith}
use native.Mathlib.Numerals.{add-one}
use lib.Dec.{eqb, ltb}
use lib.ListN.{length, get_or, take, length-append, length-set}
use lib.Seq.{get_or-set_same, get_or-set_other, take-nil, take-append-le, take-length}
use borrow.Author.Tests.{eq-eqb, ne_eqb, lt-ltb, le-ltb, ltb-true, ltb-false, le-leb, lt-leb}
use borrow.Table.Steps.{cases}
use Rattle.answer.specs.Coded.{refused, done, CUT}
use Rattle.memory.specs.Bytes.{part}
use Rattle.memory.proofs.Cases.{split_lt, split_eq}
use Rattle.memory.proofs.Bytes.{length_part, get_d_part}
use Rattle.media.specs.Geometry.{files, pages_per_file, page_bytes, file_bytes, media_bytes}
use Rattle.media.specs.Write.{Media, MediaWrite, byte_at, size_at, apply, apply_all, All}
use Rattle.media.specs.Write.MediaWrite.{page, size, trim}
use Rattle.media.proofs.Write.{bytes_stay, sizes_stay, byte-after-page, byte-after-trim, all_append, all_bytes_stay, all_sizes_stay}
use Rattle.device.specs.Device.{Device, device_of, slot_count, frames_bytes, frame_start, slot_of, is_cached, logical_at, floor_at, free_where, down_state}
use Rattle.device.specs.Current.{current_at}
use Rattle.device.specs.Admission.{Result, give}
use Rattle.device.specs.Plan.{write_if}
use Rattle.device.specs.Syncing.{trim_writes, page_write, page_writes, size_writes, sync_plan, pages_of, synced_state, sync}
use Rattle.device.specs.Truncating.{pages_from}
use Rattle.device.specs.declared.Slot.{Slot}
use Rattle.device.proofs.Current.{current-cached, current-media, current-zero, current_same}
use Rattle.device.proofs.Device.{slot_gone, slot_stays}
use Rattle.device.proofs.Admission.{Admitted, file_by}
use Rattle.device.proofs.Plan.{all_join, all_if, at_most_one, budget_by, Own, own_other_byte, own_other_size}
use Rattle.device.proofs.Sound.{Fit, freed_fit}

-- a sync is refused with everything as it came, cut, or done
pub sync_by : (P f budget : ℕ) (d : Device) (Q : Result Device → Type 0)
    → ((k : ℕ) → 0 < k → k ≢ 9 → Q (give (refused k) d))
    → (Admitted P d f true → budget < length (sync_plan P d f)
    → Q (give (CUT budget) (device_of (apply_all P d.media (take budget (sync_plan P d f))) d.frames down_state)))
    → (Admitted P d f true → length (sync_plan P d f) ≤ budget
    → Q (give (done (length (sync_plan P d f))) (device_of (apply_all P d.media (sync_plan P d f)) d.frames (synced_state d.cache f))))
    → Q (sync P f budget d)
unfolding sync
sync_by P f budget d Q fails cut finished =
    file_by P d Q f true d _ fails (λ ad. budget_by P budget (sync_plan P d f) (synced_state d.cache f) d Q (cut ad) (finished ad))

-- it only reads the frames
pub sync-frames : (P f budget : ℕ) (d : Device) → (sync P f budget d).left.frames ≡ d.frames
sync-frames P f budget d = sync_by P f budget d (λ r. r.left.frames ≡ d.frames) (λ k lo hi. refl) (λ ad l. refl) (λ ad l. refl)

-- ---- the plan of a sync

-- at most a TRIM, every page, and a SIZE
module _ (d : Device) (f : ℕ) where
  pages_at_most : (n p : ℕ) → length (page_writes d f n p) ≤ n
  unfolding page_writes page_write
  pages_at_most zero p = omega arith
  pages_at_most (suc n) p =
      simp length-append
      (omega (arith, at_most_one (is_cached d f p) (page f p (part d.frames (frame_start (slot_of d f p)) page_bytes)), pages_at_most n (suc p)))

  trim_at_most : length (trim_writes d f) ≤ 1
  unfolding trim_writes
  trim_at_most = at_most_one _ _

  size_at-most : length (size_writes d f) ≤ 1
  unfolding size_writes
  size_at-most = at_most_one _ _

  pub sync_at_most : (P : ℕ) → length (sync_plan P d f) ≤ P + 2
  unfolding sync_plan
  sync_at_most P = simp length-append (omega (arith, trim_at_most, pages_at_most P 0, size_at-most))

pub sync_at_most_18 : (d : Device) (f : ℕ) → length (sync_plan pages_per_file d f) ≤ 18
sync_at_most_18 d f = sync_at_most d f pages_per_file

-- ---- the file itself

-- the page that comes next after k page writes, of n pages from p on
pub next_page : Device → ℕ → ℕ → ℕ → ℕ → ℕ
next_page d f k zero p = p
next_page d f zero (suc n) p = cond (is_cached d f p) p (next_page d f zero n (suc p))
next_page d f (suc k) (suc n) p = cond (is_cached d f p) (next_page d f k n (suc p)) (next_page d f (suc k) n (suc p))

-- the page that comes next after k writes of a sync
abbrev pub boundary : ℕ → Device → ℕ → ℕ → ℕ
boundary P d f k = next_page d f (k - length (trim_writes d f)) P 0

module _ (P : ℕ) (d : Device) (f : ℕ) where
  -- what a sync finds
  pub record Ready : Type 0 where
    pub fit : Fit P d
    pub frames : length d.frames ≡ frames_bytes
    pub file : f < files
    -- the media has zeros from the stored size on
    pub clean : (i : ℕ) → i < file_bytes P → size_at d.media f ≤ i → byte_at P d.media f i ≡ 0

  -- the bytes below page q are the current ones, those from there on the old ones, and the size is the floor
  pub record CutAt (q : ℕ) (m : Media) : Type 0 where
    pub low : (i : ℕ) → i < file_bytes P → i < page_bytes * q → byte_at P m f i ≡ current_at P d f i
    pub high : (i : ℕ) → i < floor_at d f → page_bytes * q ≤ i → byte_at P m f i ≡ byte_at P d.media f i
    pub stored : size_at m f ≡ floor_at d f

  -- the media holds the file
  pub record Stored (m : Media) : Type 0 where
    pub byte : (i : ℕ) → i < file_bytes P → byte_at P m f i ≡ current_at P d f i
    pub stored : size_at m f ≡ logical_at d f

  module _ (r : Ready) where
    -- what the media has of the file below the floor
    old : ℕ → ℕ
    old i = cond (ltb i (floor_at d f)) (byte_at P d.media f i) 0

    old_below : (i : ℕ) → i < floor_at d f → old i ≡ byte_at P d.media f i
    unfolding old
    old_below i l = rw (lt-ltb _ _ l)

    old_past : (i : ℕ) → floor_at d f ≤ i → old i ≡ 0
    unfolding old
    old_past i l = rw (le-ltb _ _ l)

    not-cached : (i q : ℕ) → i / page_bytes ≡ q → slot_count ≤ slot_of d f q → current_at P d f i ≡ old i
    not-cached i q e l =
        split_lt i (floor_at d f)
        (λ h. current-media P d f i q e l h ∙ sym (old_below i h))
        (λ h. current-zero P d f i q e l h ∙ sym (old_past i h))

    floor-fits : floor_at d f ≤ file_bytes P
    floor-fits = omega (arith, r.fit.sizes.floor_logical f r.file, r.fit.sizes.logical_fits f r.file)

    -- current below page q, old from there on
    record Upto (q : ℕ) (m : Media) : Type 0 where
      pub bytes : length m.bytes ≡ media_bytes P
      pub low : (i : ℕ) → i < file_bytes P → i < page_bytes * q → byte_at P m f i ≡ current_at P d f i
      pub high : (i : ℕ) → i < file_bytes P → page_bytes * q ≤ i → byte_at P m f i ≡ old i

    -- page p is written
    write-page : (m : Media) (p : ℕ) → p < P → slot_of d f p < slot_count → Upto p m
        → Upto (suc p) (apply P m (page f p (part d.frames (frame_start (slot_of d f p)) page_bytes)))
    write-page m p hp l u =
        let bytes : List ℕ = part d.frames (frame_start (slot_of d f p)) page_bytes in
        let lb : length bytes ≡ page_bytes = length_part d.frames (frame_start (slot_of d f p)) page_bytes (omega (arith, r.frames)) in
        record {
          bytes = bytes_stay P m (page f p bytes) ∙ u.bytes;
          low = λ i hi lt.
              rw (byte-after-page P m u.bytes f i r.file hi f p bytes hp lb, eq-eqb f f refl)
              (split_eq (i / page_bytes) p
              (λ e. rw (eq-eqb _ _ e)
              (get_d_part d.frames (frame_start (slot_of d f p)) page_bytes (i % page_bytes) (omega arith)
              ∙ sym (current-cached P d f i p e l)))
              (λ ne. rw (ne_eqb _ _ ne) (u.low i hi (omega arith))));
          high = λ i hi ge.
              rw (byte-after-page P m u.bytes f i r.file hi f p bytes hp lb, eq-eqb f f refl)
              (let ne : eqb (i / page_bytes) p ≡ false = ne_eqb (i / page_bytes) p (λ e. (omega arith)) in rw ne (u.high i hi (omega arith)));
        }

    -- page p is not cached
    skip_page : (m : Media) (p : ℕ) → slot_count ≤ slot_of d f p → Upto p m → Upto (suc p) m
    skip_page m p l u = record {
      bytes = u.bytes;
      low = λ i hi lt.
          split_lt i (page_bytes * p)
          (λ h. u.low i hi h)
          (λ h. u.high i hi h ∙ sym (not-cached i p (omega arith) l));
      high = λ i hi ge. u.high i hi (omega arith);
    }

    -- from m to c, k of these page writes were done, and page q comes next; top where all were
    record PagesWritten (k q top : ℕ) (ws : List MediaWrite) (m c : Media) : Type 0 where
      pub upto : Upto q c
      pub all : length ws ≤ k → top ≤ q
      pub sizes : c.sizes ≡ m.sizes

    write-pages : (k n p : ℕ) (m : Media) → p + n ≤ P → Upto p m → PagesWritten k (next_page d f k n p) (p + n) (page_writes d f n p) m (apply_all P m (take k (page_writes d f n p)))
    unfolding next_page page_writes page_write write_if
    write-pages k zero p m h u = rw (take-nil k) (record { upto = u; all = λ _. (omega arith); sizes = refl })
    write-pages zero (suc n) p m h u =
        split_lt (slot_of d f p) slot_count
        (λ l. rw (lt-ltb _ _ l) (record { upto = u; all = λ z. absurd (omega arith); sizes = refl }))
        (λ l.
        let w = write-pages zero n (suc p) m (omega arith) (skip_page m p l u) in
        rw (le-ltb _ _ l) (record { upto = w.upto; all = λ z. omega (arith, w.all z); sizes = w.sizes }))
    write-pages (suc k) (suc n) p m h u =
        split_lt (slot_of d f p) slot_count
        (λ l.
        let w = write-pages k n (suc p) (apply P m (page f p (part d.frames (frame_start (slot_of d f p)) page_bytes))) (omega arith)
        (write-page m p (omega arith) l u) in
        rw (lt-ltb _ _ l) (record { upto = w.upto; all = λ z. omega (arith, w.all (le_of_suc-le-suc z)); sizes = w.sizes }))
        (λ l.
        let w = write-pages (suc k) n (suc p) m (omega arith) (skip_page m p l u) in
        rw (le-ltb _ _ l) (record { upto = w.upto; all = λ z. omega (arith, w.all z); sizes = w.sizes }))

    -- ---- after the TRIM, or where none is needed

    record Trimmed (m : Media) : Type 0 where
      pub upto : Upto 0 m
      pub sizes : length m.sizes ≡ files
      pub stored : size_at m f ≡ floor_at d f

    trimmed : Trimmed (apply P d.media (trim f (floor_at d f)))
    trimmed = record {
      upto = record {
        bytes = bytes_stay P d.media (trim f (floor_at d f)) ∙ r.fit.bytes;
        low = λ i hi lt. absurd (omega arith);
        high = λ i hi ge.
            rw (byte-after-trim P d.media r.fit.bytes f i r.file hi f (floor_at d f) floor-fits, eq-eqb f f refl)
            (split_lt i (floor_at d f)
            (λ l. rw (lt-leb _ _ l) (sym (old_below i l)))
            (λ l. rw (le-leb _ _ l) (sym (old_past i l))));
      };
      sizes = sizes_stay P d.media (trim f (floor_at d f)) ∙ r.fit.sizes.stored_count;
      stored = get_or-set_same d.media.sizes f (floor_at d f) 0 (omega (arith, r.file, r.fit.sizes.stored_count));
    }

    untrimmed : size_at d.media f ≤ floor_at d f → Trimmed d.media
    untrimmed le = record {
      upto = record {
        bytes = r.fit.bytes;
        low = λ i hi lt. absurd (omega arith);
        high = λ i hi ge.
            split_lt i (floor_at d f)
            (λ l. sym (old_below i l))
            (λ l. r.clean i hi (omega arith) ∙ sym (old_past i l));
      };
      sizes = r.fit.sizes.stored_count;
      stored = omega (arith, r.fit.sizes.floor_stored f r.file);
    }

    -- ---- the pages and the SIZE

    rest-cut : (m : Media) (k : ℕ) → Trimmed m → k < length (page_writes d f P 0 ++ size_writes d f)
        → CutAt (next_page d f k P 0) (apply_all P m (take k (page_writes d f P 0 ++ size_writes d f)))
    rest-cut m k t h =
        let hk : k ≤ length (page_writes d f P 0) = omega (arith, length-append (page_writes d f P 0) (size_writes d f), size_at-most d f) in
        let w = write-pages k P 0 m (omega arith) t.upto in
        rw (take-append-le k (page_writes d f P 0) (size_writes d f) hk)
        (record {
          low = w.upto.low;
          high = λ i l ge. w.upto.high i (omega (arith, floor-fits)) ge ∙ old_below i l;
          stored = ap (λ (z : List ℕ). get_or z f 0) w.sizes ∙ t.stored;
        })

    sized : (m : Media) → length m.sizes ≡ files → ((i : ℕ) → i < file_bytes P → byte_at P m f i ≡ current_at P d f i) → size_at m f ≡ floor_at d f
        → Stored (apply_all P m (size_writes d f))
    unfolding size_writes write_if
    sized m ls bytes sz =
        split_eq (logical_at d f) (floor_at d f)
        (λ e. rw (eq-eqb _ _ e) (record { byte = bytes; stored = sz ∙ sym e }))
        (λ ne. rw (ne_eqb _ _ ne)
        (record { byte = bytes; stored = get_or-set_same m.sizes f (logical_at d f) 0 (omega (arith, r.file)) }))

    rest-done : (m : Media) → Trimmed m → Stored (apply_all P m (page_writes d f P 0 ++ size_writes d f))
    rest-done m t =
        let w = rw (take-length (page_writes d f P 0)) at (write-pages (length (page_writes d f P 0)) P 0 m (omega arith) t.upto) in
        let top : 0 + P ≤ next_page d f (length (page_writes d f P 0)) P 0 = w.all (omega arith) in
        rw (all_append P m (page_writes d f P 0) (size_writes d f))
        (sized (apply_all P m (page_writes d f P 0)) (ap length w.sizes ∙ t.sizes)
        (λ i hi. w.upto.low i hi (omega arith))
        (ap (λ (z : List ℕ). get_or z f 0) w.sizes ∙ t.stored))

    -- ---- the whole plan

    -- cut after k writes: nothing is done, or all below a page boundary
    pub sync-cut : (k : ℕ) → k < length (sync_plan P d f)
        → (apply_all P d.media (take k (sync_plan P d f)) ≡ d.media) ⊎ CutAt (boundary P d f k) (apply_all P d.media (take k (sync_plan P d f)))
    unfolding sync_plan trim_writes write_if
    sync-cut zero h = inl refl
    sync-cut (suc k) h =
        let one : suc k - 1 ≡ k = omega arith in
        let none : suc k - 0 ≡ suc k = omega arith in
        cases (ltb (floor_at d f) (size_at d.media f))
        (λ e. rw (e, one) (inr (rest-cut (apply P d.media (trim f (floor_at d f))) k trimmed (le_of_suc-le-suc (rw e at h)))))
        (λ e. rw (e, none) (inr (rest-cut d.media (suc k) (untrimmed (ltb-false _ _ e)) (rw e at h))))

    pub sync-done : Stored (apply_all P d.media (sync_plan P d f))
    unfolding sync_plan trim_writes write_if
    sync-done =
        cases (ltb (floor_at d f) (size_at d.media f))
        (λ e. rw e (rest-done (apply P d.media (trim f (floor_at d f))) trimmed))
        (λ e. rw e (rest-done d.media (untrimmed (ltb-false _ _ e))))

-- each write is within the limits of the media, and to the file
module _ (P : ℕ) (d : Device) (x : Fit P d) (frames : length d.frames ≡ frames_bytes) (f : ℕ) (hf : f < files) where
  pages_own : (n p : ℕ) → p + n ≤ P → All (Own P f) (page_writes d f n p)
  unfolding page_writes page_write
  pages_own zero p h = tt
  pages_own (suc n) p h =
      all_join (Own P f) (page_write d f p) _
      (all_if (Own P f) (is_cached d f p) _ (λ e.
      let l : slot_of d f p < slot_count = ltb-true _ _ e in
      ((hf, omega arith, length_part d.frames (frame_start (slot_of d f p)) page_bytes (omega arith)), refl)))
      (pages_own n (suc p) (omega arith))

  pub plan_own : All (Own P f) (sync_plan P d f)
  unfolding sync_plan trim_writes size_writes
  plan_own =
      all_join (Own P f) (trim_writes d f) _
      (all_if (Own P f) (ltb (floor_at d f) (size_at d.media f)) _ (λ e.
      ((hf, omega (arith, x.sizes.floor_logical f hf, x.sizes.logical_fits f hf)), refl)))
      (all_join (Own P f) (page_writes d f P 0) _ (pages_own P 0 (omega arith))
      (all_if (Own P f) (not (eqb (logical_at d f) (floor_at d f))) _ (λ e. ((hf, x.sizes.logical_fits f hf), refl))))

-- ---- the device after a sync that is done

abbrev pub synced_device : ℕ → Device → ℕ → Device
synced_device P d f = device_of (apply_all P d.media (sync_plan P d f)) d.frames (synced_state d.cache f)

pages-sizes : (P : ℕ) (d : Device) (f : ℕ) (m : Media) (n p : ℕ) → (apply_all P m (page_writes d f n p)).sizes ≡ m.sizes
unfolding page_writes page_write write_if
pages-sizes P d f m zero p = refl
pages-sizes P d f m (suc n) p =
    cases (is_cached d f p)
    (λ e. rw e (pages-sizes P d f (apply P m (page f p (part d.frames (frame_start (slot_of d f p)) page_bytes))) n (suc p)))
    (λ e. rw e (pages-sizes P d f m n (suc p)))

module _ (P : ℕ) (d : Device) (x : Fit P d) (frames : length d.frames ≡ frames_bytes) (f : ℕ) (hf : f < files) where
  abbrev trimmed_media : Media
  trimmed_media = apply_all P d.media (trim_writes d f)

  trimmed_sizes : (length trimmed_media.sizes ≡ files) × (size_at trimmed_media f ≡ floor_at d f)
  unfolding trim_writes write_if
  trimmed_sizes =
      split_lt (floor_at d f) (size_at d.media f)
      (λ l. rw (lt-ltb _ _ l) (rw length-set x.sizes.stored_count, get_or-set_same d.media.sizes f (floor_at d f) 0 (omega (arith, hf, x.sizes.stored_count))))
      (λ l. rw (le-ltb _ _ l) (x.sizes.stored_count, omega (arith, x.sizes.floor_stored f hf)))

  -- the stored size is the logical size, whatever bytes the media has
  pub synced-size : size_at (apply_all P d.media (sync_plan P d f)) f ≡ logical_at d f
  unfolding sync_plan size_writes write_if
  synced-size =
      let t = trimmed_sizes in
      let same : (apply_all P trimmed_media (page_writes d f P 0)).sizes ≡ trimmed_media.sizes = pages-sizes P d f trimmed_media P 0 in
      rw (all_append P d.media (trim_writes d f) (page_writes d f P 0 ++ size_writes d f), all_append P trimmed_media (page_writes d f P 0) (size_writes d f))
      (split_eq (logical_at d f) (floor_at d f)
      (λ e. rw (eq-eqb _ _ e, same) (t.1 ∙ sym e))
      (λ ne. rw (ne_eqb _ _ ne, same) (get_or-set_same trimmed_media.sizes f (logical_at d f) 0 (omega (arith, hf)))))

  pub synced-fit : Fit P (synced_device P d f)
  unfolding synced_state
  synced-fit =
      let z = x.sizes in
      let low : floor_at (synced_device P d f) f ≡ logical_at d f = get_or-set_same d.cache.floor f (logical_at d f) 0 (omega (arith, hf, z.floor_count)) in
      let low-other : (g : ℕ) → g ≢ f → floor_at (synced_device P d f) g ≡ floor_at d g = λ g ne. get_or-set_other d.cache.floor f g (logical_at d f) 0 ne in
      let size_other : (g : ℕ) → g ≢ f → size_at (synced_device P d f).media g ≡ size_at d.media g =
      λ g ne. own_other_size P d.media f (sync_plan P d f) (plan_own P d x frames f hf) g ne in
      record {
        bytes = all_bytes_stay P d.media (sync_plan P d f) ∙ x.bytes;
        slots = freed_fit P d.cache.slots (pages_of f) x.slots;
        sizes = record {
          logical_count = z.logical_count;
          floor_count = rw length-set z.floor_count;
          stored_count = all_sizes_stay P d.media (sync_plan P d f) ∙ z.stored_count;
          floor_logical = λ g h. split_eq g f
              (λ e. rw (e, low) (omega arith))
              (λ ne. rw (low-other g ne) (z.floor_logical g h));
          logical_fits = z.logical_fits;
          floor_stored = λ g h. split_eq g f
              (λ e. rw (e, low, synced-size) (omega arith))
              (λ ne. rw (low-other g ne, size_other g ne) (z.floor_stored g h));
          stored_fits = λ g h. split_eq g f
              (λ e. rw (e, synced-size) (z.logical_fits f hf))
              (λ ne. rw (size_other g ne) (z.stored_fits g h));
        };
      }

module _ (P : ℕ) (d : Device) (f : ℕ) (r : Ready P d f) where
  pub synced-floor : floor_at (synced_device P d f) f ≡ logical_at d f
  unfolding synced_state
  synced-floor = get_or-set_same d.cache.floor f (logical_at d f) 0 (omega (arith, r.file, r.fit.sizes.floor_count))

  pub synced-floor_other : (g : ℕ) → g ≢ f → floor_at (synced_device P d f) g ≡ floor_at d g
  unfolding synced_state
  synced-floor_other g ne = get_or-set_other d.cache.floor f g (logical_at d f) 0 ne

  pub synced-logical : (g : ℕ) → logical_at (synced_device P d f) g ≡ logical_at d g
  unfolding synced_state
  synced-logical g = refl

  pub synced-byte_other : (g i : ℕ) → g ≢ f → g < files → i < file_bytes P → byte_at P (synced_device P d f).media g i ≡ byte_at P d.media g i
  synced-byte_other g i ne hg hi =
      own_other_byte P d.media f (sync_plan P d f) (plan_own P d r.fit r.frames f r.file) g ne i r.fit.bytes hg hi

  pub synced-size_other : (g : ℕ) → g ≢ f → size_at (synced_device P d f).media g ≡ size_at d.media g
  synced-size_other g ne = own_other_size P d.media f (sync_plan P d f) (plan_own P d r.fit r.frames f r.file) g ne

  -- the file's pages are free
  pub synced-free : (q : ℕ) → slot_of (synced_device P d f) f q ≡ slot_count
  unfolding synced_state
  synced-free q = slot_gone (pages_of f) f q d.cache.slots (eq-eqb f f refl) ∙ r.fit.slots.count

  -- a page is cached that was, and none of the file
  pub synced-cached : (q : ℕ) → is_cached (synced_device P d f) f q ≡ false
  synced-cached q = rw (synced-free q)

  pub synced-cached_other : (g q : ℕ) → g ≢ f → is_cached (synced_device P d f) g q ≡ is_cached d g q
  unfolding synced_state
  synced-cached_other g q ne = rw (slot_stays (pages_of f) g q d.cache.slots (ne_eqb g f ne))

  -- the current bytes stay, where those past the logical size are 0
  pub synced_own : (i : ℕ) → i < file_bytes P → (logical_at d f ≤ i → current_at P d f i ≡ 0) → current_at P (synced_device P d f) f i ≡ current_at P d f i
  synced_own i hi past =
      split_lt i (logical_at d f)
      (λ l.
      current-media P (synced_device P d f) f i (i / page_bytes) refl (omega (arith, synced-free (i / page_bytes))) (omega (arith, synced-floor))
      ∙ (sync-done P d f r).byte i hi)
      (λ l.
      current-zero P (synced_device P d f) f i (i / page_bytes) refl (omega (arith, synced-free (i / page_bytes))) (omega (arith, synced-floor))
      ∙ sym (past l))

  pub synced_other : (g i : ℕ) → g ≢ f → g < files → i < file_bytes P → current_at P (synced_device P d f) g i ≡ current_at P d g i
  unfolding synced_state
  synced_other g i ne hg hi =
      current_same P d (synced_device P d f) g i
      (slot_stays (pages_of f) g (i / page_bytes) d.cache.slots (ne_eqb g f ne))
      (λ l. refl) (synced-floor_other g ne) (synced-byte_other g i ne hg hi)

-- ---- the code of a sync

-- which writes are needed, and which not
module _ (d : Device) (f : ℕ) where
  pub trim_needed : floor_at d f < size_at d.media f → trim_writes d f ≡ trim f (floor_at d f) ∷ []
  unfolding trim_writes write_if
  trim_needed h = rw (lt-ltb _ _ h)

  pub trim_unneeded : size_at d.media f ≤ floor_at d f → trim_writes d f ≡ []
  unfolding trim_writes write_if
  trim_unneeded h = rw (le-ltb _ _ h)

  module _ (p k : ℕ) (e : k ≡ slot_of d f p) where
    pub page_needed : k < slot_count → page_write d f p ≡ page f p (part d.frames (frame_start k) page_bytes) ∷ []
    unfolding page_write write_if
    page_needed h = let l : slot_of d f p < slot_count = omega arith in rw (lt-ltb _ _ l, ← e)

    pub page_unneeded : slot_count ≤ k → page_write d f p ≡ []
    unfolding page_write write_if
    page_unneeded h = let l : slot_count ≤ slot_of d f p = omega arith in rw (le-ltb _ _ l)

  pub size_needed : logical_at d f ≢ floor_at d f → size_writes d f ≡ size f (logical_at d f) ∷ []
  unfolding size_writes write_if
  size_needed h = rw (ne_eqb _ _ h)

  pub size_unneeded : logical_at d f ≡ floor_at d f → size_writes d f ≡ []
  unfolding size_writes write_if
  size_unneeded h = rw (eq-eqb _ _ h)

  -- one page more
  pub pages_more : (n p : ℕ) → page_writes d f (n + 1) p ≡ page_writes d f n p ++ page_write d f (p + n)
  unfolding page_writes
  pages_more n p = rw add-one (go n p)
    where
      go : (n p : ℕ) → page_writes d f (suc n) p ≡ page_writes d f n p ++ page_write d f (p + n)
      go zero p = let e : p + 0 ≡ p = omega arith in rw (append-nil, e)
      go (suc n) p = let e : suc p + n ≡ p + suc n = omega arith in rw (append_assoc, ← e) (ap (λ l. page_write d f p ++ l) (go n (suc p)))

-- the pages of a file that begin at or past 0 are all its pages
pub free_all : (f : ℕ) (slots : List Slot) → map (free_where (pages_from f 0)) slots ≡ map (free_where (pages_of f)) slots
unfolding free_where
free_all f [] = refl
free_all f (s ∷ slots) = rw (one s) (ap (λ l. free_where (pages_of f) s ∷ l) (free_all f slots))
  where
    one : (s : Slot) → free_where (pages_from f 0) s ≡ free_where (pages_of f) s
    one s = cases (eqb s.file f) (λ e. rw (e, le-leb 0 (page_bytes * s.page) (omega arith))) (λ e. rw e)
