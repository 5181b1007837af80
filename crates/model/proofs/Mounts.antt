-- A mount keeps the invariant, one that is done starts it, and it finds each file in one of its states.
use mathlib.Core.Path.{◌≡◌, refl, sym, ap, ◌∙◌}
use mathlib.Core.Logic.{inl}
use mathlib.Core.List.{List}
use Prim.Native.Nat.{ℕ, ◌/◌, ◌≤◌, ◌<◌}
use native.Mathlib.Omega.{arith}
use lib.ListN.{length, get_or, get_or-eq_default}
use borrow.Author.Tests.{ne_eqb, le-ltb}
use Rattle.memory.proofs.Cases.{split_lt}
use Rattle.media.specs.Geometry.{files, page_bytes, file_bytes}
use Rattle.media.specs.Write.{Media, byte_at, size_at, apply_all}
use Rattle.device.specs.Device.{Device, device_of, slot_count, slot_of, down_state, mounted_state}
use Rattle.device.specs.Current.{current_at}
use Rattle.device.specs.Admission.{Result}
use Rattle.device.specs.Mounting as Mounting
use Rattle.device.proofs.Current.{current-media, current-zero}
use Rattle.device.proofs.Sound.{Fit, none-fit}
use Rattle.device.proofs.Admission.{Mountable}
use Rattle.device.proofs.Mounting.{Left, Clean, mount_by}
use Rattle.model.specs.ModelFile.{ModelFile, fresh}
use Rattle.model.specs.Run.{IsDone, Files, feed}
use Rattle.model.specs.Run.Call.{mount}
use Rattle.model.specs.States.{CrashState}
use Rattle.model.specs.Store.{store_media}
use Rattle.model.proofs.Invariant.{Found, Invariant, on_media-size, on_media-byte, found-state}
use Rattle.model.proofs.Syncs.{zero-not_one}

module _ (P : ℕ) (d : Device) (m : Media) (l : Left P d m) where
  size_same : (g : ℕ) → size_at m g ≡ size_at d.media g
  size_same g = ap (λ (z : List ℕ). get_or z g 0) l.sizes

  size_fits : (g : ℕ) → g < files → size_at m g ≤ file_bytes P
  size_fits g hg = omega (arith, size_same g, l.mountable.fit g hg)

  left-mountable : (c : Device) → c.media ≡ m → Mountable P c
  left-mountable c e = rw e (record { bytes = l.bytes; sizes = ap length l.sizes ∙ l.mountable.sizes; fit = size_fits })

  -- files as long as before, with the bytes below their sizes kept
  left-found : (c : Device) → c.media ≡ m → (g : ℕ) (f : ModelFile) → g < files → Found P d g f → Found P c g f
  left-found c e g f hg x =
      let es : size_at c.media g ≡ size_at d.media g = ap (λ (z : Media). size_at z g) e ∙ size_same g in
      record {
        file = x.file;
        state = x.state;
        size_is = x.size_is ∙ sym es;
        byte_is = λ i h hi.
            let h' : i < size_at d.media g = rw es at h in
            x.byte_is i h' hi ∙ sym (ap (λ (z : Media). byte_at P z g i) e ∙ l.kept g i hg h' hi);
      }

  -- ---- cut

  pub cut_keeps : (fs : Files) → Invariant P d fs → Invariant P (device_of m d.frames down_state) fs
  cut_keeps fs inv = record {
    mountable = left-mountable (device_of m d.frames down_state) refl;
    found = λ g hg. left-found (device_of m d.frames down_state) refl g (fs g) hg (inv.found g hg);
    fit = λ e. absurd (zero-not_one e);
    mounted = λ e. absurd (zero-not_one e);
  }

  -- ---- done

  abbrev c : Device
  c = device_of m d.frames (mounted_state d.media.sizes)

  module _ (z : Clean P d m) where
    media-size : (g : ℕ) → g < files → length (store_media P c g) ≡ size_at m g
    media-size g hg = on_media-size P c g l.bytes hg (size_fits g hg)

    -- bytes on the media, and zeros after them
    media-byte : (g : ℕ) → g < files → (i : ℕ) → i < file_bytes P → get_or (store_media P c g) i 0 ≡ byte_at P m g i
    media-byte g hg i hi =
        split_lt i (size_at m g)
        (λ h. on_media-byte P c g l.bytes hg (size_fits g hg) i h)
        (λ h.
        get_or-eq_default (store_media P c g) 0 (rw (media-size g hg) h)
        ∙ sym (z.zero_past g i hg (omega (arith, size_same g)) hi))

    none_cached_lem : (g q : ℕ) → slot_count ≤ slot_of c g q
    none_cached_lem g q = let e : slot_of c g q ≡ slot_count = refl in omega arith

    -- the current bytes are those of the media
    current-byte : (g : ℕ) → g < files → (i : ℕ) → i < file_bytes P → current_at P c g i ≡ byte_at P m g i
    current-byte g hg i hi =
        split_lt i (size_at d.media g)
        (λ h. current-media P c g i (i / page_bytes) refl (none_cached_lem g (i / page_bytes)) h)
        (λ h. current-zero P c g i (i / page_bytes) refl (none_cached_lem g (i / page_bytes)) h ∙ sym (z.zero_past g i hg h hi))

    pub done-fit : Fit P c
    done-fit = record {
      bytes = l.bytes;
      slots = none-fit P;
      sizes = rw l.sizes
          (record {
            logical_count = l.mountable.sizes;
            floor_count = l.mountable.sizes;
            stored_count = l.mountable.sizes;
            floor_logical = λ g h. (omega arith);
            logical_fits = l.mountable.fit;
            floor_stored = λ g h. (omega arith);
            stored_fits = l.mountable.fit;
          });
    }

    pub done_keeps : Invariant P c (λ f. fresh (store_media P c f))
    done_keeps = record {
      mountable = left-mountable c refl;
      found = λ g hg. record {
        file = store_media P c g;
        state = inl refl;
        size_is = media-size g hg;
        byte_is = λ i h hi. media-byte g hg i hi;
      };
      fit = λ _. done-fit;
      mounted = λ _ g hg. record {
        current_size = media-size g hg ∙ size_same g;
        current_is = λ i hi. media-byte g hg i hi ∙ sym (current-byte g hg i hi);
        durable_size = media-size g hg;
        durable_is = λ i hi. media-byte g hg i hi;
        mixed = λ boundary. record {
          size_is = media-size g hg ∙ size_same g;
          low = λ i h hi b. media-byte g hg i hi ∙ sym (current-byte g hg i hi);
          high = λ i h hi b. media-byte g hg i hi;
        };
        carried = refl;
        cached = λ q. le-ltb (slot_of c g q) slot_count (none_cached_lem g q);
      };
    }

module _ (P : ℕ) (d : Device) (budget : ℕ) where
  -- a mount in the list
  pub keeps_mount : (fs : Files) → Invariant P d fs →
      let r : Result Device = Mounting.mount P budget d in
      Invariant P r.left (feed (mount budget) r.answer (store_media P r.left) fs)
  keeps_mount fs inv =
      mount_by P budget d (λ r. Invariant P r.left (feed (mount budget) r.answer (store_media P r.left) fs))
      (λ k lo hi. rw (ne_eqb k 0 (λ e. (omega arith))) inv)
      (λ h l. cut_keeps P d _ l fs inv)
      (λ h l z. done_keeps P d _ l z)

  -- the mount before the list
  pub starts : IsDone (Mounting.mount P budget d).answer → Invariant P (Mounting.mount P budget d).left (λ f. fresh (store_media P (Mounting.mount P budget d).left f))
  starts =
      mount_by P budget d (λ r. IsDone r.answer → Invariant P r.left (λ f. fresh (store_media P r.left f)))
      (λ k lo hi z. absurd (omega arith))
      (λ h l z. absurd (omega arith))
      (λ h l z q. done_keeps P d _ l z)

  -- what a mount in the list finds
  pub finds : (fs : Files) → Invariant P d fs → IsDone (Mounting.mount P budget d).answer → (f : ℕ) → f < files → CrashState (fs f) (store_media P (Mounting.mount P budget d).left f)
  finds fs inv is f hf =
      mount_by P budget d (λ r. IsDone r.answer → CrashState (fs f) (store_media P r.left f))
      (λ k lo hi z. absurd (omega arith))
      (λ h l z. absurd (omega arith))
      (λ h l z q.
      let m : Media = apply_all P d.media (Mounting.mount_plan P d.media) in
      found-state P (device_of m d.frames (mounted_state d.media.sizes)) f l.bytes hf (size_fits P d m l f hf) (fs f)
      (left-found P d m l (device_of m d.frames (mounted_state d.media.sizes)) refl f (fs f) hf (inv.found f hf)))
      is
