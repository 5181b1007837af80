-- Demand 1 of this store.
use mathlib.Core.Path.{◌≡◌, refl, ap, ◌∙◌}
use mathlib.Core.Logic.{◌≢◌}
use mathlib.Core.Bool.{Bool, true, false≢true}
use mathlib.Core.List.{List, [], ◌∷◌, ◌++◌}
use Prim.Native.Nat.{ℕ, suc, ◌+◌, ◌<◌}
use native.Mathlib.Omega.{arith}
use lib.Dec.{leb}
use lib.ListN.{length, take, length-take, length-append}
use lib.Seq.{take-nil}
use borrow.Author.Tests.{leb-true}
use Rattle.answer.specs.Coded.{Coded, refused, done, NO_ROOM, CUT}
use Rattle.answer.specs.Admission.{Test, test, first_refusal}
use Rattle.scan.proofs.Same.{same_self}
use Rattle.media.specs.Geometry.{file_bytes}
use Rattle.media.specs.Write.{Media, MediaWrite}
use Rattle.memory.proofs.Cases.{split_eq}
use Rattle.device.specs.Device.{Device, device_of, down_state}
use Rattle.device.specs.Sound.{is_sound}
use Rattle.device.specs.Admission.{media_shape, frames_shape, sizes_fit, state_tests, file_tests, mount_tests}
use Rattle.device.specs.Reading as Reading
use Rattle.device.specs.Writing as Writing
use Rattle.device.specs.Truncating as Truncating
use Rattle.device.specs.Syncing as Syncing
use Rattle.device.specs.Mounting as Mounting
use Rattle.device.specs.Looking as Looking
use Rattle.device.proofs.Admission.{admit-answer}
use Rattle.device.proofs.Sound.{Fit, fit-sound}
use Rattle.device.proofs.Plan.{budget-answer}
use Rattle.device.proofs.Reading.{read_by}
use Rattle.device.proofs.Writing.{write_by, write-leaves, write_kept, write-idle}
use Rattle.device.proofs.Truncating.{truncate_by, truncated-fit, truncated-media, truncate-kept}
use Rattle.device.proofs.Looking.{look_by}
use Rattle.device.proofs.Syncing.{sync_by, sync-frames, synced-fit}
use Rattle.device.proofs.Mounting.{mount_by}
use Rattle.model.specs.Run.{Call, IsDone, Reply}
use Rattle.model.specs.Run.Call.{read, look, write, truncate, sync, mount}
use Rattle.model.specs.View.{same_media, on_file, conditions, plan, media_after, limits}
use Rattle.model.specs.Claims.{as_it_came, is_idle, Made, Cut, Persists, Demand1}
use Rattle.model.specs.Store.{keeping, without_output, store_does, store}
use Rattle.model.proofs.Mounts.{done-fit}
use Rattle.model.proofs.Work.{admitted_fit, works}

pub same_media_lem : (m : Media) → same_media m m ≡ true
unfolding same_media
same_media_lem m = rw (same_self m.bytes, same_self m.sizes)

module _ (P : ℕ) where
  -- ---- the first refusal that applies

  on_file_lem : (d : Device) (f : ℕ) (range : Bool) (ts : List Test) (a : Coded)
      → first_refusal (file_tests P d f range ++ ts) a ≡ first_refusal (on_file (store P) d f range ++ ts) a
  unfolding media_shape frames_shape sizes_fit state_tests
  on_file_lem d f range ts a = rw (same_media_lem d.media)

  pub ordered : (c : Call) (d : Device) → (n : ℕ) × ((store_does P c d).answer ≡ first_refusal (conditions (store P) c d ++ limits (store P) c d) (done n))
  unfolding Reading.read Looking.look_count Writing.write Truncating.truncate Syncing.sync Mounting.mount media_shape frames_shape sizes_fit state_tests
  ordered (read f position buffer) d =
      let range : Bool = leb position (file_bytes P) in (_, admit-answer buffer (file_tests P d f range) _ ∙ on_file_lem d f range [] _)
  ordered (look f position) d = (_, on_file_lem d f (leb position (file_bytes P)) [] _)
  ordered (write f position bytes) d =
      let range : Bool = leb (position + length bytes) (file_bytes P) in
      let room : List Test = test (Writing.has_room d f position bytes) NO_ROOM ∷ [] in
      (_, admit-answer d (file_tests P d f range ++ room) _ ∙ on_file_lem d f range room _)
  ordered (truncate f n) d = let range : Bool = leb n (file_bytes P) in (_, admit-answer d (file_tests P d f range) _ ∙ on_file_lem d f range [] _)
  ordered (sync f budget) d = (
    _,
    admit-answer d (file_tests P d f true) _
        ∙ ap (first_refusal (file_tests P d f true)) (budget-answer P budget (Syncing.sync_plan P d f) (Syncing.synced_state d.cache f) d)
        ∙ on_file_lem d f true (limits (store P) (sync f budget) d) _,
  )
  ordered (mount budget) d = (
    _,
    admit-answer d (mount_tests P d.media) _
        ∙ ap (first_refusal (mount_tests P d.media)) (budget-answer P budget (Mounting.mount_plan P d.media) _ d),
  )

  -- ---- what a call leaves

  pub plain-made : (p : Media) (ws : List MediaWrite) (spent : ℕ) (q : Media) → length ws ≡ spent → Made (store P) p ws spent q
  plain-made p ws spent q e = record { paid = λ w vs. omega (arith, e, length-append ws (w ∷ vs)); used = λ w vs. refl }

  -- a budget pays for as many first media writes
  pub cut_at : (d : Device) (ws : List MediaWrite) (budget : ℕ) (output : List ℕ) → budget < length ws
      → Cut (store P) ws d (record { answer = CUT budget; output = output; device = device_of (media_after (store P) d (take budget ws)) d.frames down_state })
  cut_at d ws budget output short = record {
    writes = budget;
    pays = (omega (arith, length-take budget ws), omega (arith, length-take (suc budget) ws));
    leaves = refl;
    made = plain-made d.media (take budget ws) budget _ (omega (arith, length-take budget ws));
  }

  -- what is left to say of a done call
  pub record Ends (c : Call) (d e : Device) : Type 0 where
    pub stored : e.media ≡ media_after (store P) d (plan (store P) c d)
    pub mounted : e.cache.mounted ≡ 1
    pub sound : is_sound P e.media.sizes e.cache ≡ true

  -- refused, done or cut
  pub record Leaves (c : Call) (d : Device) (r : Reply Device) : Type 0 where
    pub quiet : r.answer.number ≢ 0 → r.output ≡ as_it_came c
    pub unchanged : r.answer.number ≢ 0 → r.answer.number ≢ 9 → r.device ≡ d
    pub is_cut : r.answer.number ≡ 9 → Cut (store P) (plan (store P) c d) d r
    pub ends : IsDone r.answer → Ends c d r.device

  when_refused : (c : Call) (d : Device) (k : ℕ) → 0 < k → k ≢ 9 → Leaves c d (record { answer = refused k; output = as_it_came c; device = d })
  when_refused c d k lo ne = record { quiet = λ _. refl; unchanged = λ _ _. refl; is_cut = λ z. absurd (ne z); ends = λ z. absurd (omega arith) }

  when_done : (c : Call) (d : Device) (n : ℕ) (output : List ℕ) (e : Device) → Ends c d e → Leaves c d (record { answer = done n; output = output; device = e })
  when_done c d n output e x = record { quiet = λ z. absurd (z refl); unchanged = λ z _. absurd (z refl); is_cut = λ z. absurd (omega arith); ends = λ _. x }

  when_cut : (c : Call) (d : Device) (budget : ℕ) → budget < length (plan (store P) c d)
      → Leaves c d (record { answer = CUT budget; output = as_it_came c; device = device_of (media_after (store P) d (take budget (plan (store P) c d))) d.frames down_state })
  when_cut c d budget short = record {
    quiet = λ _. refl;
    unchanged = λ _ z. absurd (z refl);
    is_cut = λ _. cut_at d (plan (store P) c d) budget (as_it_came c) short;
    ends = λ z. absurd (omega arith);
  }

  pub leaves : (c : Call) (d : Device) → Leaves c d (store_does P c d)
  unfolding Syncing.synced_state Truncating.truncated Truncating.clear_tail Truncating.with_sizes
  leaves (read f position buffer) d =
      let c : Call = read f position buffer in
      read_by P f position buffer d (λ r. Leaves (read f position buffer) d (keeping d r)) (when_refused c d)
      (λ ad. when_done c d _ _ d (record { stored = refl; mounted = ad.mounted; sound = ad.sound }))
  leaves (look f position) d =
      let c : Call = look f position in
      look_by P f position d (λ a output. Leaves (look f position) d (record { answer = a; output = output; device = d })) (when_refused c d)
      (λ ad. when_done c d _ _ d (record { stored = refl; mounted = ad.mounted; sound = ad.sound }))
  leaves (write f position bytes) d =
      let c : Call = write f position bytes in
      write_by P f position bytes d (λ r. Leaves (write f position bytes) d (without_output r)) (when_refused c d)
      (λ ad room.
      let w = (write-leaves P d (admitted_fit P d ad) ad.frames f position bytes ad.file (leb-true _ _ ad.in_range)).1 in
      when_done c d _ [] _ (record { stored = w.media; mounted = w.mounted ∙ ad.mounted; sound = fit-sound P _ w.fit (w.mounted ∙ ad.mounted) }))
  leaves (truncate f n) d =
      let c : Call = truncate f n in
      truncate_by P f n d (λ r. Leaves (truncate f n) d (without_output r)) (when_refused c d)
      (λ ad.
      let x : Fit P d = admitted_fit P d ad in
      when_done c d _ [] _
      (record {
        stored = truncated-media P d x ad.frames f n ad.file;
        mounted = ad.mounted;
        sound = fit-sound P _ (truncated-fit P d x ad.frames f n ad.file (leb-true _ _ ad.in_range)) ad.mounted;
      }))
  leaves (sync f budget) d =
      let c : Call = sync f budget in
      sync_by P f budget d (λ r. Leaves (sync f budget) d (without_output r)) (when_refused c d)
      (λ ad l. when_cut c d budget l)
      (λ ad l. when_done c d _ [] _
      (record {
        stored = refl;
        mounted = ad.mounted;
        sound = fit-sound P _ (synced-fit P d (admitted_fit P d ad) ad.frames f ad.file) ad.mounted;
      }))
  leaves (mount budget) d =
      let c : Call = mount budget in
      mount_by P budget d (λ r. Leaves (mount budget) d (without_output r)) (when_refused c d)
      (λ h l. when_cut c d budget h)
      (λ h l z. when_done c d _ [] _ (record { stored = refl; mounted = refl; sound = fit-sound P _ (done-fit P d _ l z) refl }))

  frames-kept : (c : Call) (d : Device) → length (store_does P c d).device.frames ≡ length d.frames
  frames-kept (read f position buffer) d = refl
  frames-kept (look f position) d = refl
  frames-kept (write f position bytes) d = (write_kept P f position bytes d).frames
  frames-kept (truncate f n) d = (truncate-kept P f n d).frames
  frames-kept (sync f budget) d = ap length (sync-frames P f budget d)
  frames-kept (mount budget) d = mount_by P budget d (λ r. length r.left.frames ≡ length d.frames) (λ k lo hi. refl) (λ h l. refl) (λ h l z. refl)

  idle : (c : Call) (d : Device) → is_idle c ≡ true → (store_does P c d).device ≡ d
  idle (read f position buffer) d e = refl
  idle (look f position) d e = refl
  idle (write f position []) d e = write-idle P f position d
  idle (write f position (b ∷ bytes)) d e = absurd (false≢true e)
  idle (truncate f n) d e = absurd (false≢true e)
  idle (sync f budget) d e = absurd (false≢true e)
  idle (mount budget) d e = absurd (false≢true e)

  pub plain-persists : (d : Device) → Persists (store P) d
  plain-persists d = record { image = refl; shaped = refl; intact = refl }

  -- no media write leaves the media
  untouched : (c : Call) (d : Device) (r : Reply Device) → Leaves c d r → plan (store P) c d ≡ [] → r.device.media ≡ d.media
  untouched c d r l none =
      split_eq r.answer.number 0
      (λ z. rw none at (l.ends z).stored)
      (λ n. split_eq r.answer.number 9
      (λ z. let x = l.is_cut z in ap (λ (e : Device). e.media) (rw (none, take-nil) at x.leaves))
      (λ m. ap (λ (e : Device). e.media) (l.unchanged n m)))

  pub demand_1 : Demand1 (store P)
  demand_1 c d =
      let l = leaves c d in
      record {
        count = (ordered c d).0;
        in_order = (ordered c d).1;
        output_kept = l.quiet;
        unchanged = l.unchanged;
        idle = idle c d;
        is_cut = l.is_cut;
        is_done = λ z.
            let e = l.ends z in record { stored = e.stored; mounted = e.mounted; sound = e.sound; frames = frames-kept c d; work = works P c d z; made = plain-made d.media (plan (store P) c d) (length (plan (store P) c d)) (store_does P c d).device.media refl };
        pages = refl;
        persists = λ _. plain-persists (store_does P c d).device;
        untouched = untouched c d (store_does P c d) l;
      }
