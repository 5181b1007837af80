-- The work of a call that is done, on any device of this store.
use mathlib.Core.Path.{◌≡◌, refl, ap, ◌∙◌}
use mathlib.Core.Logic.{◌≢◌}
use mathlib.Core.Bool.{Bool, cond}
use mathlib.Core.List.{List}
use Prim.Native.Nat.{ℕ, ◌+◌, ◌-◌, ◌/◌, ◌≤◌, ◌<◌}
use native.Mathlib.Omega.{arith}
use lib.Dec.{eqb, leb}
use lib.ListN.{length, get_or, take}
use lib.Seq.{get_or-take, length-take-le}
use borrow.Author.Tests.{leb-true, eq-eqb, ne_eqb, lt-ltb, le-ltb, le-leb, lt-leb}
use Rattle.memory.proofs.Cases.{split_lt, split_eq}
use Rattle.media.specs.Geometry.{files, page_bytes, file_bytes}
use Rattle.media.specs.Write.{Media, size_at}
use Rattle.device.specs.Device.{Device, device_of, slot_count, slot_of, logical_at, mounted_state}
use Rattle.device.specs.Truncating.{truncated}
use Rattle.device.specs.Syncing.{sync_plan}
use Rattle.device.specs.Mounting.{mount_plan}
use Rattle.device.proofs.Current.{current-media, current-zero}
use Rattle.device.proofs.Sound.{Fit, sound-fit}
use Rattle.device.proofs.Admission.{Admitted}
use Rattle.device.proofs.Reading.{read_by}
use Rattle.device.proofs.Looking.{look_by, looked-bytes}
use Rattle.device.proofs.Writing.{write_by, Leaves, write-leaves, write-used}
use Rattle.device.proofs.Truncating.{truncate_by, truncated-slots, truncated-logical, truncated-floor, truncated_sizes_other, truncated-below, truncated_past, truncated_other, truncated-cached, truncated-cached_other}
use Rattle.device.proofs.Syncing.{Ready, sync_by, sync-done, synced_device, synced-size, synced-logical, synced-floor, synced-floor_other, synced-free, synced_own, synced_other, synced-cached, synced-cached_other}
use Rattle.device.proofs.Mounting.{Left, mount_by}
use Rattle.model.specs.Run.{Call, IsDone}
use Rattle.model.specs.Run.Call.{read, look, write, truncate, sync, mount}
use Rattle.model.specs.Store.{store, store_does, keeping, without_output}
use Rattle.model.specs.View.{plan}
use Rattle.model.specs.Work.{Seen, seen, Alike, with_bytes, cut_to, synced, as_stored, Changes, Works}
use Rattle.model.proofs.Posix.{write_ends}

-- file f is changed, the others are not
seen_by : (Q : ℕ → Seen → Type 0) (f : ℕ) (h : Seen → Seen) (v : ℕ → Seen) → (f < files → Q f (h (v f)))
    → ((g : ℕ) → g ≢ f → g < files → Q g (v g)) → (g : ℕ) → g < files → Q g (cond (eqb g f) (h (v g)) (v g))
seen_by Q f h v own other g hg =
    split_eq g f (λ e. rw (e, eq-eqb f f refl) (own (rw e at hg))) (λ ne. rw (ne_eqb g f ne) (other g ne hg))

module _ (P : ℕ) (d : Device) where
  pub admitted_fit : {f : ℕ} {range : Bool} → Admitted P d f range → Fit P d
  admitted_fit ad = sound-fit P d ad.sound ad.bytes ad.sizes ad.fit

  -- ---- write

  module _ (f position n : ℕ) (bytes : List ℕ) (hn : n ≤ length bytes) (c : Device) (w : Leaves P f position n bytes d c) where
    written_own : Alike P (seen P c f) (with_bytes position (take n bytes) (seen P d f))
    written_own =
        let l : length (take n bytes) ≡ n = length-take-le n bytes hn in
        record {
          size = rw l w.logical;
          floor = w.floor f;
          byte = λ i hi. rw l
              (split_lt i position
              (λ h. rw (lt-leb position i h) (w.below i h))
              (λ h. rw (le-leb position i h)
              (split_lt i (position + n)
              (λ k. rw (lt-ltb i (position + n) k, get_or-take n bytes (i - position) 0 (omega arith)) (w.inside i h k))
              (λ k. rw (le-ltb i (position + n) k) (w.above i k)))));
          cached = λ q. rw l (w.cached q);
        }

    written_other : (g : ℕ) → g ≢ f → Alike P (seen P c g) (seen P d g)
    written_other g ne = record {
      size = w.logical_other g ne;
      floor = w.floor g;
      byte = λ i hi. w.others g i ne;
      cached = λ q. w.cached_other g q ne;
    }

    written_all : Changes P f (with_bytes position (take n bytes)) d c
    written_all = seen_by (λ g v. Alike P (seen P c g) v) f (with_bytes position (take n bytes)) (seen P d) (λ hf. written_own) (λ g ne hg. written_other g ne)

  -- ---- truncate

  module _ (f n : ℕ) (ad : Admitted P d f (leb n (file_bytes P))) where
    truncated_all : Changes P f (cut_to n) d (truncated f n d)
    truncated_all =
        let x : Fit P d = admitted_fit ad in
        seen_by (λ g v. Alike P (seen P (truncated f n d) g) v) f (cut_to n) (seen P d)
        (λ hf. record {
          size = truncated-logical P d x ad.frames f n hf;
          floor = truncated-floor P d x ad.frames f n hf;
          byte = λ i hi.
              split_lt i n
              (λ l. rw (lt-ltb i n l) (truncated-below P d x ad.frames f n hf i l))
              (λ l. rw (le-ltb i n l) (truncated_past P d x ad.frames f n hf i l));
          cached = λ q. truncated-cached P d x ad.frames f n hf q;
        })
        (λ g ne hg. record {
          size = (truncated_sizes_other P d x ad.frames f n ad.file g ne).0;
          floor = (truncated_sizes_other P d x ad.frames f n ad.file g ne).1;
          byte = λ i hi. truncated_other P d x ad.frames f n ad.file g i ne;
          cached = λ q. truncated-cached_other P d x ad.frames f n ad.file g q ne;
        })

  -- ---- sync

  module _ (f : ℕ) (r : Ready P d f) where
    abbrev e : Device
    e = synced_device P d f

    synced_all : Changes P f synced d e
    synced_all =
        seen_by (λ g v. Alike P (seen P e g) v) f synced (seen P d)
        (λ hf. record {
          size = synced-logical P d f r f;
          floor = synced-floor P d f r;
          byte = λ i hi.
              split_lt i (logical_at d f)
              (λ l. rw (lt-ltb i (logical_at d f) l) (synced_own P d f r i hi (λ k. absurd (omega arith))))
              (λ l. rw (le-ltb i (logical_at d f) l)
              (current-zero P e f i (i / page_bytes) refl (omega (arith, synced-free P d f r (i / page_bytes))) (omega (arith, synced-floor P d f r))));
          cached = λ q. synced-cached P d f r q;
        })
        (λ g ne hg. record {
          size = synced-logical P d f r g;
          floor = synced-floor_other P d f r g ne;
          byte = λ i hi. synced_other P d f r g i ne hg hi;
          cached = λ q. synced-cached_other P d f r g q ne;
        })

  -- ---- mount

  module _ (m : Media) (l : Left P d m) where
    abbrev c : Device
    c = device_of m d.frames (mounted_state d.media.sizes)

    none_cached_lem : (g q : ℕ) → slot_count ≤ slot_of c g q
    none_cached_lem g q = let z : slot_of c g q ≡ slot_count = refl in omega arith

    mounted_as : (g : ℕ) → g < files → Alike P (seen P c g) (as_stored P d.media g)
    mounted_as g hg = record {
      size = refl;
      floor = refl;
      byte = λ i hi.
          split_lt i (size_at d.media g)
          (λ h. rw (lt-ltb i (size_at d.media g) h)
          (current-media P c g i (i / page_bytes) refl (none_cached_lem g (i / page_bytes)) h ∙ l.kept g i hg h hi))
          (λ h. rw (le-ltb i (size_at d.media g) h) (current-zero P c g i (i / page_bytes) refl (none_cached_lem g (i / page_bytes)) h));
      cached = λ q. le-ltb (slot_of c g q) slot_count (none_cached_lem g q);
    }

module _ (P : ℕ) where
  pub works : (c : Call) (d : Device) → IsDone (store_does P c d).answer → Works P c d d.media (length (plan (store P) c d)) (store_does P c d)
  works (read f position buffer) d =
      read_by P f position buffer d (λ r. IsDone r.answer → Works P (read f position buffer) d d.media 0 (keeping d r))
      (λ k lo hi z. absurd (omega arith))
      (λ ad z. (refl, refl))
  works (look f position) d =
      look_by P f position d (λ a output. IsDone a → Works P (look f position) d d.media 0 (record { answer = a; output = output; device = d }))
      (λ k lo hi z. absurd (omega arith))
      (λ ad z. (refl, looked-bytes P d f position (admitted_fit P d ad) ad.frames ad.file))
  works (write f position bytes) d = λ is. (
    refl,
    write_ends P d f position bytes is,
    write_by P f position bytes d (λ r. IsDone r.answer → Changes P f (with_bytes position (take r.answer.count bytes)) d r.left)
        (λ k lo hi z. absurd (omega arith))
        (λ ad room z.
        let w = write-leaves P d (admitted_fit P d ad) ad.frames f position bytes ad.file (leb-true _ _ ad.in_range) in
        written_all P d f position _ bytes w.0 _ w.1) is,
    write-used P f position bytes d,
  )
  works (truncate f n) d =
      truncate_by P f n d (λ r. IsDone r.answer → Works P (truncate f n) d d.media 0 (without_output r))
      (λ k lo hi z. absurd (omega arith))
      (λ ad z. (refl, refl, truncated_all P d f n ad, truncated-slots f n d))
  works (sync f budget) d =
      sync_by P f budget d (λ r. IsDone r.answer → Works P (sync f budget) d d.media (length (sync_plan P d f)) (without_output r))
      (λ k lo hi z. absurd (omega arith))
      (λ ad l z. absurd (omega arith))
      (λ ad l z. (
        refl,
        refl,
        refl,
        refl,
        synced-size P d (admitted_fit P d ad) ad.frames f ad.file,
        λ clean.
            let r : Ready P d f = record { fit = admitted_fit P d ad; frames = ad.frames; file = ad.file; clean = clean } in
            (synced_all P d f r, (sync-done P d f r).byte),
      ))
  works (mount budget) d =
      mount_by P budget d (λ r. IsDone r.answer → Works P (mount budget) d d.media (length (mount_plan P d.media)) (without_output r))
      (λ k lo hi z. absurd (omega arith))
      (λ h l z. absurd (omega arith))
      (λ h l c z. (
        refl,
        refl,
        refl,
        refl,
        λ f hf. (mounted_as P d _ l f hf, λ i hi ge. c.zero_past f i hf (omega (arith, ap (λ (x : List ℕ). get_or x f 0) l.sizes)) hi),
      ))
