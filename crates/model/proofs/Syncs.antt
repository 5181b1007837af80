-- A sync keeps the invariant, cut or done.
use mathlib.Core.Path.{◌≡◌, refl, sym, ◌∙◌}
use mathlib.Core.Logic.{◌≢◌, inl, inr}
use mathlib.Core.List.{List}
use Prim.Native.Nat.{ℕ, ◌*◌, ◌≤◌, ◌<◌}
use native.Mathlib.Omega.{arith}
use lib.ListN.{length, take, get_or-eq_default}
use borrow.Author.Tests.{ne_eqb}
use Rattle.memory.proofs.Cases.{split_lt, split_eq}
use Rattle.media.specs.Geometry.{files, page_bytes, file_bytes}
use Rattle.media.specs.Write.{Media, size_at, apply_all, All}
use Rattle.media.proofs.Write.{all_bytes_stay, all_sizes_stay}
use Rattle.device.specs.Device.{Device, device_of, frames_bytes, logical_at, floor_at, down_state}
use Rattle.device.specs.Current.{current_at}
use Rattle.device.specs.Admission.{Result}
use Rattle.device.specs.Syncing as Syncing
use Rattle.device.specs.Syncing.{sync_plan}
use Rattle.device.proofs.Sound.{Fit}
use Rattle.device.proofs.Admission.{Mountable}
use Rattle.device.proofs.Plan.{Own, all_take, own_other_byte, own_other_size}
use Rattle.device.proofs.Syncing.{sync_by, plan_own, Ready, CutAt, Stored, boundary, sync-cut, sync-done, synced_device, synced-logical, synced-floor, synced-floor_other, synced-byte_other, synced-size_other, synced_own, synced_other, synced-cached, synced-cached_other, synced-fit}
use Rattle.model.specs.ModelFile.{after_sync}
use Rattle.model.specs.Run.{Files, change, feed}
use Rattle.model.specs.Run.Call.{sync}
use Rattle.model.specs.States.{replay}
use Rattle.model.proofs.Invariant.{changed, Found, Mounted, Invariant, SameStored, SameFile, same_found, same_mounted}

pub zero-not_one : ◌≡◌ {A = ℕ} 0 1 → ⊥
zero-not_one e = omega arith

-- what a sync finds
pub ready : (P : ℕ) (d : Device) (fs : Files) (f : ℕ) → Invariant P d fs → d.cache.mounted ≡ 1 → length d.frames ≡ frames_bytes → f < files → Ready P d f
ready P d fs f inv up frames hf =
    let x = inv.mounted up f hf in
    record {
      fit = inv.fit up;
      frames = frames;
      file = hf;
      clean = λ i hi ge. sym (x.durable_is i hi) ∙ get_or-eq_default (fs f).durable 0 (rw x.durable_size ge);
    }

module _ (P : ℕ) (d : Device) (fs : Files) (f : ℕ) (inv : Invariant P d fs) (up : d.cache.mounted ≡ 1) (r : Ready P d f) where
  -- ---- cut

  module _ (k : ℕ) (short : k < length (sync_plan P d f)) where
    abbrev m : Media
    m = apply_all P d.media (take k (sync_plan P d f))

    abbrev c : Device
    c = device_of m d.frames down_state

    own : All (Own P f) (take k (sync_plan P d f))
    own = all_take (Own P f) k (sync_plan P d f) (plan_own P d r.fit r.frames f r.file)

    cut_other : (g : ℕ) → g ≢ f → g < files → SameStored P d c g
    cut_other g ne hg = record {
      size_is = own_other_size P d.media f (take k (sync_plan P d f)) own g ne;
      byte_is = λ i hi. own_other_byte P d.media f (take k (sync_plan P d f)) own g ne i r.fit.bytes hg hi;
    }

    -- the log replayed up to the boundary
    cut_own : (q : ℕ) → CutAt P d f q m → Found P c f (fs f)
    cut_own q x =
        let y = (inv.mounted up f r.file).mixed (page_bytes * q) in
        record {
          file = replay (page_bytes * q) (fs f).durable (fs f).log;
          state = inr (q, refl);
          size_is = y.size_is ∙ sym x.stored;
          byte_is = λ i l hi.
              let l' : i < floor_at d f = rw x.stored at l in
              split_lt i (page_bytes * q)
              (λ b. y.low i l' hi b ∙ sym (x.low i hi b))
              (λ b. y.high i l' hi b ∙ sym (x.high i l' b));
        }

    cut-mountable : size_at m f ≤ file_bytes P → Mountable P c
    cut-mountable fits = record {
      bytes = all_bytes_stay P d.media (take k (sync_plan P d f)) ∙ inv.mountable.bytes;
      sizes = all_sizes_stay P d.media (take k (sync_plan P d f)) ∙ inv.mountable.sizes;
      fit = λ g hg.
          split_eq g f
          (λ e. rw e fits)
          (λ ne. rw (cut_other g ne hg).size_is (inv.mountable.fit g hg));
    }

    cut_keeps_as : size_at m f ≤ file_bytes P → Found P c f (fs f) → Invariant P c fs
    cut_keeps_as fits x = record {
      mountable = cut-mountable fits;
      found = λ g hg. split_eq g f (λ e. rw e x) (λ ne. same_found P (cut_other g ne hg) (inv.found g hg));
      fit = λ e. absurd (zero-not_one e);
      mounted = λ e. absurd (zero-not_one e);
    }

    cut_keeps : Invariant P c fs
    cut_keeps =
        elim (sync-cut P d f r k short) [
          | inl e ↦ cut_keeps_as (rw e (inv.mountable.fit f r.file))
              (same_found P (record { size_is = rw e; byte_is = λ i hi. rw e }) (inv.found f r.file))
          | inr x ↦ cut_keeps_as (omega (arith, x.stored, r.fit.sizes.floor_logical f r.file, r.fit.sizes.logical_fits f r.file))
              (cut_own (boundary P d f k) x)
        ]

  -- ---- done

  abbrev e : Device
  e = synced_device P d f

  stored : Stored P d f e.media
  stored = sync-done P d f r

  -- past the logical size the current bytes are 0
  past_zero : (i : ℕ) → i < file_bytes P → logical_at d f ≤ i → current_at P d f i ≡ 0
  past_zero i hi l =
      let x = inv.mounted up f r.file in
      sym (x.current_is i hi) ∙ get_or-eq_default (fs f).current 0 (rw x.current_size l)

  current_stays : (i : ℕ) → i < file_bytes P → current_at P e f i ≡ current_at P d f i
  current_stays i hi = synced_own P d f r i hi (past_zero i hi)

  done_other : (g : ℕ) → g ≢ f → g < files → SameFile P d e g
  done_other g ne hg = record {
    stored = record { size_is = synced-size_other P d f r g ne; byte_is = λ i hi. synced-byte_other P d f r g i ne hg hi };
    logical_is = synced-logical P d f r g;
    floor_is = synced-floor_other P d f r g ne;
    current_is = λ i hi. synced_other P d f r g i ne hg hi;
    cached_is = λ q. synced-cached_other P d f r g q ne;
  }

  done-found : Found P e f (after_sync (fs f))
  done-found =
      let x = inv.mounted up f r.file in
      record {
        file = (fs f).current;
        state = inl refl;
        size_is = x.current_size ∙ sym stored.stored;
        byte_is = λ i l hi. x.current_is i hi ∙ sym (stored.byte i hi);
      }

  done_own : Mounted P e f (after_sync (fs f))
  done_own =
      let x = inv.mounted up f r.file in
      record {
        current_size = x.current_size ∙ sym (synced-logical P d f r f);
        current_is = λ i hi. x.current_is i hi ∙ sym (current_stays i hi);
        durable_size = x.current_size ∙ sym stored.stored;
        durable_is = λ i hi. x.current_is i hi ∙ sym (stored.byte i hi);
        mixed = λ boundary. record {
          size_is = x.current_size ∙ sym (synced-floor P d f r);
          low = λ i l hi b. x.current_is i hi ∙ sym (current_stays i hi);
          high = λ i l hi b. x.current_is i hi ∙ sym (stored.byte i hi);
        };
        carried = refl;
        cached = λ q. synced-cached P d f r q;
      }

  done_keeps : Invariant P e (change f after_sync fs)
  done_keeps =
      let y : Fit P e = synced-fit P d r.fit r.frames f r.file in
      record {
        mountable = record { bytes = y.bytes; sizes = y.sizes.stored_count; fit = y.sizes.stored_fits };
        found = changed (Found P e) f after_sync fs done-found (λ g ne hg. same_found P (done_other g ne hg).stored (inv.found g hg));
        fit = λ _. y;
        mounted = λ _. changed (Mounted P e) f after_sync fs done_own (λ g ne hg. same_mounted P (done_other g ne hg) (inv.mounted up g hg));
      }

pub keeps_sync : (P : ℕ) (d : Device) (fs : Files) (f budget : ℕ) → Invariant P d fs → (found : Device → ℕ → List ℕ) →
    let r : Result Device = Syncing.sync P f budget d in
    Invariant P r.left (feed (sync f budget) r.answer (found r.left) fs)
keeps_sync P d fs f budget inv found =
    sync_by P f budget d (λ r. Invariant P r.left (feed (sync f budget) r.answer (found r.left) fs))
    (λ k lo hi. rw (ne_eqb k 0 (λ e. (omega arith))) inv)
    (λ ad l. cut_keeps P d fs f inv ad.mounted (ready P d fs f inv ad.mounted ad.frames ad.file) budget l)
    (λ ad l. done_keeps P d fs f inv ad.mounted (ready P d fs f inv ad.mounted ad.frames ad.file))
