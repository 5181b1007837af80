-- A truncate keeps the invariant.
use mathlib.Core.Path.{◌≡◌, refl, sym, ◌∙◌}
use mathlib.Core.Logic.{◌≢◌}
use mathlib.Core.Bool.{false}
use mathlib.Core.List.{List}
use Prim.Native.Nat.{ℕ, ◌≤◌, ◌<◌, min}
use native.Mathlib.Omega.{arith}
use lib.ListN.{length}
use borrow.Author.Tests.{leb-true, ne_eqb, lt-ltb, le-ltb}
use Rattle.memory.proofs.Cases.{split_lt}
use Rattle.media.specs.Geometry.{files, file_bytes}
use Rattle.device.specs.Device.{Device, frames_bytes, floor_at}
use Rattle.device.specs.Current.{current_at}
use Rattle.device.specs.Admission.{Result}
use Rattle.device.specs.Truncating as Truncating
use Rattle.device.specs.Truncating.{truncated}
use Rattle.device.proofs.Sound.{Fit}
use Rattle.device.proofs.Truncating.{truncate_by, truncated-logical, truncated-floor, truncated_sizes_other, truncated-fit, truncated-media, truncated-below, truncated_past, truncated_other, truncated-cached, truncated-cached_other}
use Rattle.model.specs.ModelFile.{ModelFile, after_truncate}
use Rattle.model.specs.ModelFile.Entry.{truncated as truncated_to}
use Rattle.model.specs.Run.{Files, change, feed}
use Rattle.model.specs.Run.Call.{truncate}
use Rattle.model.specs.States.{redo, replay}
use Rattle.model.proofs.ModelFile.{length-truncate, truncate-below, truncate_past, replay_one_more, carried_one_more, cached_one_more}
use Rattle.model.proofs.Invariant.{changed, Found, Mixed, Mounted, Invariant, SameStored, SameFile, same_found, same_mounted, mounted-found}

module _ (P : ℕ) (d : Device) (x : Fit P d) (frames : length d.frames ≡ frames_bytes) (f n : ℕ) (hf : f < files) (hn : n ≤ file_bytes P) where
  abbrev c : Device
  c = truncated f n d

  same_stored : (g : ℕ) → SameStored P d c g
  same_stored g = record { size_is = rw (truncated-media P d x frames f n hf); byte_is = λ i hi. rw (truncated-media P d x frames f n hf) }

  other_file : (g : ℕ) → g ≢ f → SameFile P d c g
  other_file g ne = record {
    stored = same_stored g;
    logical_is = (truncated_sizes_other P d x frames f n hf g ne).0;
    floor_is = (truncated_sizes_other P d x frames f n hf g ne).1;
    current_is = λ i hi. truncated_other P d x frames f n hf g i ne;
    cached_is = λ q. truncated-cached_other P d x frames f n hf g q ne;
  }

  kept : (i : ℕ) → i < n → current_at P c f i ≡ current_at P d f i
  kept = truncated-below P d x frames f n hf

  own_mixed : (file : List ℕ) (boundary : ℕ) → Mixed P d f boundary file → Mixed P c f boundary (redo boundary file (truncated_to n))
  own_mixed file boundary y =
      let lc : floor_at c f ≡ min (floor_at d f) n = truncated-floor P d x frames f n hf in
      let lf : length file ≡ floor_at d f = y.size_is in
      split_lt n (length file)
      (λ l. rw (lt-ltb n (length file) l)
      (record {
        size_is = omega (arith, length-truncate file n);
        low = λ i h hi b. truncate-below file n i (omega arith) ∙ y.low i (omega arith) hi b ∙ sym (kept i (omega arith));
        high = λ i h hi b. truncate-below file n i (omega arith) ∙ y.high i (omega arith) hi b ∙ sym ((same_stored f).byte_is i hi);
      }))
      (λ l. rw (le-ltb n (length file) l)
      (record {
        size_is = omega arith;
        low = λ i h hi b. y.low i (omega arith) hi b ∙ sym (kept i (omega arith));
        high = λ i h hi b. y.high i (omega arith) hi b ∙ sym ((same_stored f).byte_is i hi);
      }))

  own_file : (m : ModelFile) → Mounted P d f m → Mounted P c f (after_truncate n m)
  own_file m y = record {
    current_size = length-truncate m.current n ∙ sym (truncated-logical P d x frames f n hf);
    current_is = λ i hi.
        split_lt i n
        (λ l. truncate-below m.current n i l ∙ y.current_is i hi ∙ sym (kept i l))
        (λ l. truncate_past m.current n i l ∙ sym (truncated_past P d x frames f n hf i l));
    durable_size = y.durable_size ∙ sym (same_stored f).size_is;
    durable_is = λ i hi. y.durable_is i hi ∙ sym ((same_stored f).byte_is i hi);
    mixed = λ boundary.
        rw (replay_one_more boundary m.durable m.log (truncated_to n))
        (own_mixed (replay boundary m.durable m.log) boundary (y.mixed boundary));
    carried = rw (carried_one_more m.durable m.log (truncated_to n), y.carried);
    cached = λ q. truncated-cached P d x frames f n hf q ∙ rw (cached_one_more m.durable m.log (truncated_to n) q false, y.cached q);
  }

  truncated_keeps : (fs : Files) → d.cache.mounted ≡ 1 → Invariant P d fs → Invariant P c (change f (after_truncate n) fs)
  truncated_keeps fs up inv =
      let own : Mounted P c f (after_truncate n (fs f)) = own_file (fs f) (inv.mounted up f hf) in
      record {
        mountable = rw (truncated-media P d x frames f n hf)
            (record { bytes = inv.mountable.bytes; sizes = inv.mountable.sizes; fit = inv.mountable.fit });
        found =
            changed (Found P c) f (after_truncate n) fs (mounted-found P c f (after_truncate n (fs f)) _ own refl)
            (λ g ne hg. same_found P (same_stored g) (inv.found g hg));
        fit = λ _. truncated-fit P d x frames f n hf hn;
        mounted = λ _. changed (Mounted P c) f (after_truncate n) fs own (λ g ne hg. same_mounted P (other_file g ne) (inv.mounted up g hg));
      }

pub keeps_truncate : (P : ℕ) (d : Device) (fs : Files) (f n : ℕ) → Invariant P d fs → (found : Device → ℕ → List ℕ) →
    let r : Result Device = Truncating.truncate P f n d in
    Invariant P r.left (feed (truncate f n) r.answer (found r.left) fs)
keeps_truncate P d fs f n inv found =
    truncate_by P f n d (λ r. Invariant P r.left (feed (truncate f n) r.answer (found r.left) fs))
    (λ k lo hi. rw (ne_eqb k 0 (λ e. (omega arith))) inv)
    (λ ad. truncated_keeps P d (inv.fit ad.mounted) ad.frames f n ad.file (leb-true _ _ ad.in_range) fs ad.mounted inv)
