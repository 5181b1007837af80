-- What each call gives where the invariant holds.
use mathlib.Core.Path.{◌≡◌, refl, sym, ap, ◌∙◌}
use mathlib.Core.Logic.{inl, inr}
use mathlib.Core.Bool.{Bool, true, false, cond}
use mathlib.Core.List.{List, [], ◌∷◌, ◌++◌}
use Prim.Native.Nat.{ℕ, ◌+◌, ◌-◌, ◌/◌, ◌≤◌, ◌<◌, min}
use native.Mathlib.Nat.{le_trans}
use native.Mathlib.Omega.{arith}
use lib.Dec.{ltb, leb}
use lib.ListN.{length, get_or, length-append, length-replicate, get_or-append}
use lib.Seq.{ext_get_or, get_or-append-add}
use borrow.Author.Tests.{leb-true, le-leb}
use borrow.Table.Steps.{cases}
use Rattle.answer.specs.Coded.{Coded, done, CUT, NO_ROOM}
use Rattle.answer.specs.Admission.{Test, test, first_refusal}
use Rattle.memory.specs.Bytes.{zeros, part, overwrite}
use Rattle.memory.proofs.Cases.{split_lt, split_eq}
use Rattle.memory.proofs.Bytes.{get_or-zeros, length_part, get_d_part}
use Rattle.media.specs.Geometry.{files, page_bytes, file_bytes}
use Rattle.device.specs.Device.{Device, slot_count, frames_bytes, is_cached, first_free, logical_at, floor_at}
use Rattle.device.specs.Current.{current_at, current_bytes}
use Rattle.device.specs.Admission.{Result, give, file_tests, mount_tests}
use Rattle.device.specs.Reading.{read_count, read}
use Rattle.device.specs.Writing.{put_pages, has_room, write}
use Rattle.device.specs.Truncating.{truncate}
use Rattle.device.specs.Syncing.{sync_plan, synced_state, sync}
use Rattle.device.specs.Mounting.{mount_plan, mount}
use Rattle.device.specs.Looking.{to_page_end, look_count, looked_at, look}
use Rattle.device.proofs.Current.{length-current, current_at_lem}
use Rattle.device.proofs.Sound.{Fit}
use Rattle.answer.proofs.Admission.{passed, first_all, first-join}
use Rattle.device.proofs.Admission.{Mountable, admit-answer, admit-passed, file_passes, mount_passes}
use Rattle.device.proofs.Writing.{write_by, write_stops, write_some, grown-room}
use Rattle.device.proofs.Plan.{budget-answer}
use Rattle.device.proofs.Syncing.{sync_by, synced_device, sync-done, synced-fit}
use Rattle.device.proofs.Looking.{look_by, looked-most, looked-length, looked-bytes, looked-current, looked-rest}
use Rattle.model.specs.ModelFile.{ModelFile}
use Rattle.model.specs.CacheByLog.{cached_in, floor_of, sync_by_log, cached_pages, room_for}
use Rattle.model.specs.Run.{IsDone, Files}
use Rattle.model.specs.Claims.{ByLog}
use Rattle.model.specs.Store.{store, store_media}
use Rattle.model.specs.Work.{Stops}
use Rattle.model.proofs.ModelFile.{length-replay}
use Rattle.model.proofs.Room.{one, count_from, sum_same, sum_below, free_by_count}
use Rattle.model.proofs.Invariant.{Mounted, Invariant, on_media_is}
use Rattle.model.proofs.Syncs.{ready}
use Rattle.model.proofs.SyncByLog.{plan_is}

-- a write that is done puts down all bytes, or stops where there is no room for the rest
pub write_ends : (P : ℕ) (d : Device) (f position : ℕ) (bytes : List ℕ) → let r : Result Device = write P f position bytes d in
    IsDone r.answer → Stops (has_room r.left f) position bytes r.answer.count
write_ends P d f position bytes =
    write_by P f position bytes d (λ r. IsDone r.answer → Stops (has_room r.left f) position bytes r.answer.count)
    (λ k lo hi z. absurd (omega arith))
    (λ ad room z.
    let fits : position + length bytes ≤ file_bytes P = leb-true _ _ ad.in_range in
    elim (write_stops P f P position bytes d (omega arith)) [
      | inl h ↦ inl h
      | inr s ↦
          (let some : 0 < (put_pages P f P position bytes d).count = write_some P f P position bytes d (omega (arith, s.short)) (omega (arith, s.short)) room in
          inr (some, s.short, s.at_page some, rw (grown-room P f position (put_pages P f P position bytes d), s.no_room)))
    ])

-- an answer that is done has its own count
own_count : (b : Bool) (a : Coded) (n : ℕ) → a ≡ first_refusal (test b NO_ROOM ∷ []) (done n) → a ≡ first_refusal (test b NO_ROOM ∷ []) (done a.count)
own_count true a n e = e ∙ ap done (sym (ap (λ (c : Coded). c.count) e))
own_count false a n e = e

-- a mount of media that has its lengths and limits
pub mount-answer : (P : ℕ) (d : Device) → Mountable P d → (budget : ℕ) → let n : ℕ = length (mount_plan P d.media) in
    (mount P budget d).answer ≡ first_refusal (test (leb n budget) (CUT budget) ∷ []) (done n)
unfolding mount
mount-answer P d x budget =
    admit-answer d (mount_tests P d.media) _
    ∙ first_all (mount_tests P d.media) _ (mount_passes P d x)
    ∙ budget-answer P budget (mount_plan P d.media) _ d

module _ (P : ℕ) (d : Device) (fs : Files) (inv : Invariant P d fs) where
  module _ (up : d.cache.mounted ≡ 1) (f : ℕ) (hf : f < files) where
    file : List ℕ
    file = (fs f).current

    x : Mounted P d f (fs f)
    x = inv.mounted up f hf

    fits : logical_at d f ≤ file_bytes P
    fits = (inv.fit up).sizes.logical_fits f hf

    size_is : length file ≡ logical_at d f
    unfolding file x
    size_is = x.current_size

    byte_is : (i : ℕ) → i < file_bytes P → get_or file i 0 ≡ current_at P d f i
    unfolding file x
    byte_is = x.current_is

    floor_is : floor_at d f ≡ floor_of (fs f)
    unfolding x
    floor_is = sym (x.mixed 0).size_is ∙ length-replay 0 (fs f).durable (fs f).log

    -- a run of current bytes is a part of the model's file
    current-part : (position n : ℕ) → n ≤ logical_at d f - position → current_bytes P d f position n ≡ part file position n
    current-part position n h =
        split_eq n 0
        (λ e. rw e)
        (λ ne.
        let lc : length (current_bytes P d f position n) ≡ n = length-current P d f position n in
        ext_get_or 0 (current_bytes P d f position n) (part file position n)
        (lc ∙ sym (length_part file position n (omega (arith, size_is))))
        (λ i l.
        let l' : i < n = rw lc at l in
        current_at_lem P d f position n i l'
        ∙ sym (byte_is (position + i) (omega (arith, fits)))
        ∙ sym (get_d_part file position n i l')))

    -- what a look hands back, and zeros after it, are a part of it too
    looked-part : length d.frames ≡ frames_bytes → (position : ℕ) →
        let m : ℕ = to_page_end position (logical_at d f) in
        part file position m ≡ looked_at P f position d ++ zeros (m - length (looked_at P f position d))
    looked-part frames position =
        let out : List ℕ = looked_at P f position d in
        let n : ℕ = length out in
        let m : ℕ = to_page_end position (logical_at d f) in
        let most : n ≤ m = looked-most P d f position ((inv.fit up).sizes.floor_logical f hf) in
        let short : m ≤ logical_at d f - position = omega arith in
        split_eq m 0
        (λ e. rw (e, none out (omega arith)))
        (λ ne.
        let lp : length (part file position m) ≡ m = length_part file position m (omega (arith, size_is)) in
        ext_get_or 0 (part file position m) (out ++ zeros (m - n))
        (lp ∙ simp (length-append, length-replicate) (omega arith))
        (λ i l.
        let l' : i < m = rw lp at l in
        get_d_part file position m i l'
        ∙ byte_is (position + i) (omega (arith, fits))
        ∙ split_lt i n
        (λ h. sym (get_or-append out (zeros (m - n)) 0 i h ∙ looked-current P d f position i h))
        (λ h.
        let k : n + (i - n) ≡ i = omega arith in
        looked-rest P d f position (inv.fit up) frames hf i h l'
        ∙ sym (get_or-zeros (m - n) (i - n))
        ∙ sym (get_or-append-add out (zeros (m - n)) (i - n) 0)
        ∙ ap (λ (j : ℕ). get_or (out ++ zeros (m - n)) j 0) k)))
      where
        none : (xs : List ℕ) → length xs ≡ 0 → xs ≡ []
        none [] e = refl
        none (y ∷ xs) e = absurd (omega arith)

  -- a slot is free, by the pages that the logs cached
  free_is : d.cache.mounted ≡ 1 → ltb (first_free d) slot_count ≡ ltb (cached_pages P fs) slot_count
  free_is up =
      free_by_count P d (inv.fit up).slots
      ∙ ap (λ (n : ℕ). ltb n slot_count)
      (sum_below (λ g. count_from (is_cached d g) P 0) (λ g. count_from (cached_in (fs g)) P 0) files 0 (λ g hg.
      sum_same (λ q. one (is_cached d g q)) (λ q. one (cached_in (fs g) q)) (λ q. rw ((inv.mounted up g (omega arith)).cached q)) P 0))

  room_is : d.cache.mounted ≡ 1 → (f : ℕ) → f < files → (position : ℕ) (bytes : List ℕ) → has_room d f position bytes ≡ room_for P fs f position bytes
  room_is up f hf position [] = refl
  room_is up f hf position (b ∷ bytes) =
      rw ((inv.mounted up f hf).cached (position / page_bytes), free_is up)
      (cases (cached_in (fs f) (position / page_bytes)) (λ e. rw e) (λ e. rw e))

  pub by_log : d.cache.mounted ≡ 1 → length d.frames ≡ frames_bytes → (f : ℕ) → f < files → ByLog (store P) (record { device = d; models = fs }) f
  unfolding file
  by_log up frames f hf = record {
    cached = (inv.mounted up f hf).cached;
    logical = sym (size_is up f hf);
    floor = floor_is up f hf;
    writes = plan_is P d frames f (fs f) (inv.mounted up f hf) (floor_is up f hf);
    room = room_is up f hf;
  }

  -- ---- a device that is mounted, with page frames of their length, and a file that there is

  module _ (up : d.cache.mounted ≡ 1) (frames : length d.frames ≡ frames_bytes) (f : ℕ) (hf : f < files) where
    passes : (range : Bool) → range ≡ true → passed (file_tests P d f range) ≡ true
    passes range h = file_passes P d f range (inv.fit up) up frames hf h

    pub read_serves : (position : ℕ) (buffer : List ℕ) → position ≤ file_bytes P →
        let r : Result (List ℕ) = read P f position buffer d in
        let n : ℕ = min (length buffer) (length (fs f).current - position) in
        (r.answer ≡ done n) × (r.left ≡ overwrite buffer 0 (part (fs f).current position n))
    unfolding read file
    read_serves position buffer h =
        let ts : List Test = file_tests P d f (leb position (file_bytes P)) in
        let n : ℕ = read_count d f position (length buffer) in
        let e : give (done n) (overwrite buffer 0 (current_bytes P d f position n)) ≡ read P f position buffer d =
        admit-passed ts buffer _ (passes _ (le-leb _ _ h)) in
        let s : length (fs f).current ≡ logical_at d f = size_is up f hf in (
          rw (← e, s),
          rw (← e, s) (ap (overwrite buffer 0) (current-part up f hf position n (omega arith))),
        )

    pub look_serves : (position : ℕ) → position ≤ file_bytes P →
        let m : ModelFile = fs f in
        let n : ℕ = to_page_end position (length m.current) in
        let shown : ℕ = to_page_end position (cond (cached_in m (position / page_bytes)) (length m.current) (floor_of m)) in
        (look_count P f position d ≡ done n)
        × (look P f position d ≡ part m.current position shown)
        × (part m.current position n ≡ look P f position d ++ zeros (n - shown))
    unfolding file look_count
    look_serves position h =
        let s : length (fs f).current ≡ logical_at d f = size_is up f hf in
        let c : is_cached d f (position / page_bytes) ≡ cached_in (fs f) (position / page_bytes) = (inv.mounted up f hf).cached (position / page_bytes) in
        let fl : floor_at d f ≡ floor_of (fs f) = floor_is up f hf in
        let low : floor_at d f ≤ logical_at d f = (inv.fit up).sizes.floor_logical f hf in
        let shown : ℕ = to_page_end position (cond (is_cached d f (position / page_bytes)) (logical_at d f) (floor_at d f)) in
        let lo : length (looked_at P f position d) ≡ shown = looked-length P d f position (inv.fit up) frames hf in
        let most : shown ≤ logical_at d f - position = le_trans (rw lo at (looked-most P d f position low)) (omega arith) in
        let count : look_count P f position d ≡ done (to_page_end position (logical_at d f)) =
        first_all (file_tests P d f (leb position (file_bytes P))) _ (passes _ (le-leb _ _ h)) in
        let is : look P f position d ≡ looked_at P f position d =
        look_by P f position d (λ a output. IsDone a → output ≡ looked_at P f position d) (λ k l hi z. absurd (omega arith)) (λ ad z. refl)
        (ap (λ (a : Coded). a.number) count) in (
          rw s count,
          rw (is, ← c, s, ← fl) (looked-bytes P d f position (inv.fit up) frames hf ∙ current-part up f hf position shown most),
          rw (is, ← c, s, ← fl) (rw lo at (looked-part up f hf frames position)),
        )

    pub write_serves : (position : ℕ) (bytes : List ℕ) → position + length bytes ≤ file_bytes P
        → let r : Result Device = write P f position bytes d in
        r.answer ≡ first_refusal (test (room_for P fs f position bytes) NO_ROOM ∷ []) (done r.answer.count)
    unfolding write
    write_serves position bytes h =
        let ts : List Test = file_tests P d f (leb (position + length bytes) (file_bytes P)) in
        let us : List Test = test (has_room d f position bytes) NO_ROOM ∷ [] in
        rw (← room_is up f hf position bytes)
        (own_count (has_room d f position bytes) _ _ (admit-answer d (ts ++ us) _ ∙ first-join ts us _ ∙ first_all ts _ (passes _ (le-leb _ _ h))))

    pub truncate_serves : (n : ℕ) → n ≤ file_bytes P → (truncate P f n d).answer ≡ done 0
    unfolding truncate
    truncate_serves n h =
        admit-answer d (file_tests P d f (leb n (file_bytes P))) _ ∙ first_all (file_tests P d f (leb n (file_bytes P))) _ (passes _ (le-leb _ _ h))

    pub sync_serves : (budget : ℕ) → let n : ℕ = length (sync_by_log P (fs f) f) in
        (sync P f budget d).answer ≡ first_refusal (test (leb n budget) (CUT budget) ∷ []) (done n)
    unfolding sync
    sync_serves budget =
        rw (← (by_log up frames f hf).writes)
        (admit-answer d (file_tests P d f true) _
        ∙ first_all (file_tests P d f true) _ (passes true refl)
        ∙ budget-answer P budget (sync_plan P d f) (synced_state d.cache f) d)

  pub mount_serves : (budget : ℕ) → let n : ℕ = length (mount_plan P d.media) in
      (mount P budget d).answer ≡ first_refusal (test (leb n budget) (CUT budget) ∷ []) (done n)
  mount_serves budget = mount-answer P d inv.mountable budget

  -- ---- a sync that is done leaves the file on the media

  pub sync_stores : (f budget : ℕ) → IsDone (sync P f budget d).answer → store_media P (sync P f budget d).left f ≡ (fs f).current
  sync_stores f budget =
      sync_by P f budget d (λ r. IsDone r.answer → store_media P r.left f ≡ (fs f).current)
      (λ k lo hi z. absurd (omega arith))
      (λ ad l z. absurd (omega arith))
      (λ ad l z.
      let r = ready P d fs f inv ad.mounted ad.frames ad.file in
      let y : Mounted P d f (fs f) = inv.mounted ad.mounted f ad.file in
      let s = sync-done P d f r in
      let fit : Fit P (synced_device P d f) = synced-fit P d r.fit r.frames f r.file in
      sym
      (on_media_is P (synced_device P d f) f fit.bytes ad.file (fit.sizes.stored_fits f ad.file) (fs f).current
      (y.current_size ∙ sym s.stored)
      (λ i h. let hi : i < file_bytes P = omega (arith, fit.sizes.stored_fits f ad.file) in y.current_is i hi ∙ sym (s.byte i hi))))
