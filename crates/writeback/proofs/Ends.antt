-- How the calls end: a sync on the bytes of a state, refused, cut or done; an admitted mount and format.
use mathlib.Core.Path.{◌≡◌, refl}
use mathlib.Core.Logic.{◌≢◌}
use mathlib.Core.Bool.{true}
use mathlib.Core.List.{List, [], ◌++◌}
use Prim.Native.Nat.{ℕ, ◌≤◌, ◌<◌}
use lib.ListN.{length}
use borrow.Author.Tests.{lt-ltb, le-ltb}
use Rattle.std.proofs.Common.{Bor, MutBor}
use Rattle.std.specs.Array.{IsWholeChunk}
use Rattle.std.specs.Prelude.{Option, Some, MatchOption, Ok}
use Rattle.answer.specs.declared.Refusal.{Refusal}
use Rattle.answer.specs.Coded.{done, CUT, coded_refusal}
use Rattle.answer.specs.Admission.{first_refusal}
use Rattle.answer.proofs.Admission.{passed}
use Rattle.memory.specs.Bytes.{zeros}
use Rattle.media.specs.Geometry.{files}
use Rattle.media.specs.Write.{Media}
use Rattle.device.specs.Device.{Device, device_of, down_state, mounted_state}
use Rattle.device.specs.Admission.{give, file_tests, media_shape, mount_tests}
use Rattle.device.specs.Plan.{budgeted, Spent}
use Rattle.device.specs.Syncing.{sync_plan, synced_state, sync}
use Rattle.device.specs.Mounting.{mount_plan, mount, format_plan, format}
use Rattle.device.proofs.Admission.{admit-refused, mount-refusing, shape-refusing}
use Rattle.device.proofs.Plan.{plan_ends}
use Rattle.state_bytes.specs.Encoding.{state_bytes, encode, decode}
use Rattle.state_bytes.specs.Inverse.{are_bytes}
use Rattle.state_bytes.specs.InPlace.{Borrowed, borrowed, device_in, state_shape, borrowed_tests, on_bytes}
use Rattle.state_bytes.proofs.OnBytes.{shape-passed, refused_on, state_on, bytes_on}
use Rattle.writeback.specs.Trims.{trims_to}
use Rattle.writeback.proofs.Trimming.{mount_trims, format_trims}

module _ (P f budget : ℕ) (l : Borrowed) where
  pub refused_ends : (x : Refusal) → coded_refusal x ≡ first_refusal (borrowed_tests P l f true) (done 0) → are_bytes l.state ≡ true
      → give (coded_refusal x) l ≡ on_bytes (sync P f budget) l
  unfolding sync
  refused_ends x e small =
      refused_on (sync P f budget) l (file_tests P (device_in l) f true) x e small (admit-refused (file_tests P (device_in l) f true) (device_in l) _ x)

  -- n writes were needed, and the media is m
  module _ (n : ℕ) (m : Media) (x : Spent P budget l.media 0 n (sync_plan P (device_in l) f) m) (h : length l.state ≡ state_bytes) (ok : passed (file_tests P (device_in l) f true) ≡ true) where
    ends : budgeted budget n m l.frames (synced_state (decode l.state) f) ≡ sync P f budget (device_in l)
    unfolding sync
    ends = plan_ends P budget (sync_plan P (device_in l) f) (synced_state (decode l.state) f) (device_in l) n m x (file_tests P (device_in l) f true) ok

    pub cut_ends : budget < n → give (CUT budget) (borrowed m l.frames (encode down_state)) ≡ on_bytes (sync P f budget) l
    cut_ends k = state_on (sync P f budget) l h (CUT budget) (device_of m l.frames down_state) (rw (lt-ltb budget n k) at ends)

    pub done_ends : n ≤ budget → (after : List ℕ) → length after ≡ state_bytes → are_bytes after ≡ true → decode after ≡ synced_state (decode l.state) f
        → give (done n) (borrowed m l.frames after) ≡ on_bytes (sync P f budget) l
    done_ends k after q small e = bytes_on (sync P f budget) l h (done n) m l.frames after q small (rw (le-ltb budget n k, ← e) at ends)

-- n writes were needed by an admitted mount or format, and the media is m
module _ (P budget : ℕ) (d : Device) (n : ℕ) (m : Media) where
  pub mount_ends : Spent P budget d.media 0 n (trims_to P d.media d.media.sizes) m → passed (mount_tests P d.media) ≡ true
      → budgeted budget n m d.frames (mounted_state d.media.sizes) ≡ mount P budget d
  unfolding mount
  mount_ends x = plan_ends P budget (mount_plan P d.media) (mounted_state d.media.sizes) d n m (rw (← mount_trims P d.media) at x) (mount_tests P d.media)

  pub format_ends : Spent P budget d.media 0 n (trims_to P d.media (zeros files)) m → passed (media_shape P d.media) ≡ true
      → budgeted budget n m d.frames down_state ≡ format P budget d
  unfolding format
  format_ends x = plan_ends P budget (format_plan P d.media) down_state d n m (rw (← format_trims P d.media) at x) (media_shape P d.media)

-- what the tests of a mount and of a format have shown where they pass
module _ (P : ℕ) (m : Media) (state : List ℕ) where
  pub mount_tested : done 0 ≡ first_refusal (state_shape state ++ mount_tests P m) (done 0) → (length state ≡ state_bytes) × (passed (mount_tests P m) ≡ true)
  mount_tested e = shape-passed state (mount_tests P m) (Ok 0) 0 (mount-refusing P (device_of m [] (decode state))) e refl

  pub format_tested : done 0 ≡ first_refusal (state_shape state ++ media_shape P m) (done 0) → (length state ≡ state_bytes) × (passed (media_shape P m) ≡ true)
  format_tested e = shape-passed state (media_shape P m) (Ok 0) 0 (shape-refusing P (device_of m [] (decode state))) e refl

-- a slice of the length of an array, as that array
pub whole_mut : (n : ℕ) {xs : List ℕ} {o : Option (MutBor (List ℕ))} {r : MutBor (List ℕ)} → MatchOption o (length xs ≢ n) (λ y. IsWholeChunk xs y.now n) → o ≡ Some r → r.now ≡ xs
whole_mut n h e = (rw e at h).same

pub whole : (n : ℕ) {xs : List ℕ} {o : Option (Bor (List ℕ))} {r : Bor (List ℕ)} → MatchOption o (length xs ≢ n) (λ y. IsWholeChunk xs y.now n) → o ≡ Some r → r.now ≡ xs
whole n h e = (rw e at h).same
