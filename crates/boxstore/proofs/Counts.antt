-- No call counts more than a file has bytes, so that a count fits the low half of a word. P is the number of pages in a file.
use mathlib.Core.Path.{◌≡◌, refl, ap}
use mathlib.Core.Logic.{◌≢◌}
use mathlib.Core.Bool.{Bool, true, false}
use mathlib.Core.List.{List, [], ◌∷◌, ◌++◌}
use Prim.Native.Nat.{ℕ, zero, suc, ◌+◌, ◌≤◌, ◌<◌, max}
use native.Mathlib.Omega.{arith}
use lib.Dec.{eqb}
use lib.ListN.{length, length-append}
use borrow.Author.Tests.{eqb-true, leb-true}
use borrow.Table.Steps.{cases}
use Rattle.answer.specs.Coded.{Coded, done, refused, SHAPE, BOOKS, NO_FILE, RANGE}
use Rattle.answer.specs.Admission.{Test, test, first_refusal}
use Rattle.answer.proofs.Admission.{Changeless, first_by}
use Rattle.media.specs.Geometry.{files, page_bytes, file_bytes, media_bytes}
use Rattle.media.specs.Write.{Media, MediaWrite}
use Rattle.media.specs.Write.MediaWrite.{trim}
use Rattle.media.specs.Direct.{page_answer, size_tests, size_answer, stored_test, trim_answer}
use Rattle.device.specs.declared.FileSizes.{FileSizes}
use Rattle.device.specs.Device.{Device, frames_bytes}
use Rattle.device.specs.Sizes.{sizes_tests, sizes_answer}
use Rattle.device.specs.Admission.{Result, give}
use Rattle.device.specs.Plan.{write_if}
use Rattle.device.specs.Writing.{write}
use Rattle.device.specs.Truncating.{truncate}
use Rattle.device.specs.Syncing.{sync}
use Rattle.device.specs.Mounting.{trims_from, mount_plan, mount, format_plan, format}
use Rattle.device.proofs.Sound.{sound-sizes}
use Rattle.device.proofs.Reading.{read_by}
use Rattle.device.proofs.Looking.{look_by, look-within}
use Rattle.device.proofs.Writing.{write_by, pages_most}
use Rattle.device.proofs.Truncating.{truncate_by}
use Rattle.device.proofs.Syncing.{sync_by, sync_at_most}
use Rattle.device.proofs.Mounting.{mount_by, format_by}
use Rattle.state_bytes.specs.Encoding.{state_bytes}
use Rattle.state_bytes.specs.InPlace.{Borrowed, device_in, state_shape, on_bytes, read_bytes, look_count_bytes, look_span_bytes}
use Rattle.state_bytes.proofs.OnBytes.{span_on}

-- an answer that is that of a call
pub counts : {A : Type 0} (a : Coded) (x : A) (r : Result A) (n : ℕ) → give a x ≡ r → r.answer.count ≤ n → a.count ≤ n
counts a x r n e h = rw (ap (λ q. q.answer.count) e) h

-- a count that is at most n fits
pub fits : (a b : Coded) (n : ℕ) → a ≡ b → b.count ≤ n → n < 65536 → a.count < 65536
fits a b n e h l = rw e (omega arith)

-- a call on bytes counts no more than the call
pub on_small : (call : Device → Result Device) (n : ℕ) → ((d : Device) → (call d).answer.count ≤ n) → (l : Borrowed) → (on_bytes call l).answer.count ≤ n
unfolding on_bytes state_shape
on_small call n most l = cases (eqb (length l.state) state_bytes) (λ e. rw e (most (device_in l))) (λ e. rw e (omega arith))

module _ (P f position : ℕ) (l : Borrowed) where
  pub read_small : (buffer : List ℕ) → (read_bytes P f position buffer l).answer.count ≤ file_bytes P
  unfolding read_bytes state_shape
  read_small buffer =
      let d : Device = device_in l in
      cases (eqb (length l.state) state_bytes)
      (λ e.
      rw e
      (read_by P f position buffer d (λ r. r.answer.count ≤ file_bytes P) (λ k h n. omega arith)
      (λ ad. omega (arith, sound-sizes P d.media.sizes d.cache f ad.sound ad.file))))
      (λ e. rw e (omega arith))

  pub look-small : (look_count_bytes P f position l).count ≤ page_bytes
  unfolding look_count_bytes state_shape
  look-small =
      cases (eqb (length l.state) state_bytes)
      (λ e. rw e (look_by P f position (device_in l) (λ a _. a.count ≤ page_bytes) (λ k h n. omega arith) (λ ad. omega arith)))
      (λ e. rw e (omega arith))

  pub span_small : ((look_span_bytes P f position l).from ≤ max frames_bytes (media_bytes P)) × ((look_span_bytes P f position l).count ≤ page_bytes)
  unfolding look_span_bytes look_count_bytes state_shape
  span_small =
      cases (eqb (length l.state) state_bytes)
      (λ e. let w = look-within P f position (device_in l) in rw (← span_on P f position l (eqb-true _ _ e)) (w.from_most, w.count_most))
      (λ e. rw e (omega arith, omega arith))

module _ (P : ℕ) where
  pub write-small : (f position : ℕ) (bytes : List ℕ) (d : Device) → (write P f position bytes d).answer.count ≤ file_bytes P
  write-small f position bytes d =
      write_by P f position bytes d (λ r. r.answer.count ≤ file_bytes P) (λ k h n. omega arith)
      (λ ad room.
      let h : position + length bytes ≤ file_bytes P = leb-true _ _ ad.in_range in
      omega (arith, pages_most P f P position bytes d))

  pub truncate-small : (f n : ℕ) (d : Device) → (truncate P f n d).answer.count ≤ 0
  truncate-small f n d = truncate_by P f n d (λ r. r.answer.count ≤ 0) (λ k h m. omega arith) (λ ad. omega arith)

  pub sync-small : (f budget : ℕ) (d : Device) → (sync P f budget d).answer.count ≤ P + 2
  sync-small f budget d =
      sync_by P f budget d (λ r. r.answer.count ≤ P + 2) (λ k h m. omega arith)
      (λ ad l. omega (arith, sync_at_most d f P)) (λ ad l. omega (arith, sync_at_most d f P))

-- at most one TRIM a file
at_most_one : (b : Bool) (w : MediaWrite) → length (write_if b w) ≤ 1
unfolding write_if
at_most_one true w = omega arith
at_most_one false w = omega arith

trims_most : (needed : ℕ → Bool) (size : ℕ → ℕ) (n f : ℕ) → length (trims_from needed size n f) ≤ n
unfolding trims_from
trims_most needed size zero f = omega arith
trims_most needed size (suc n) f =
    rw length-append (omega (arith, at_most_one (needed f) (trim f (size f)), trims_most needed size n (suc f)))

module _ (P : ℕ) where
  mount-most : (m : Media) → length (mount_plan P m) ≤ files
  unfolding mount_plan
  mount-most m = trims_most _ _ files 0

  format-most : (m : Media) → length (format_plan P m) ≤ files
  unfolding format_plan
  format-most m = trims_most _ _ files 0

  pub mount-small : (budget : ℕ) (d : Device) → (mount P budget d).answer.count ≤ files
  mount-small budget d =
      mount_by P budget d (λ r. r.answer.count ≤ files) (λ k h m. omega arith)
      (λ l _. omega (arith, mount-most d.media)) (λ l _ _. mount-most d.media)

  pub format_small : (budget : ℕ) (d : Device) → (format P budget d).answer.count ≤ files
  format_small budget d =
      format_by P budget d (λ r. r.answer.count ≤ files) (λ k h m. omega arith)
      (λ l. omega (arith, format-most d.media)) (λ l _ _. format-most d.media)

-- ---- calls that count 0

shape : (k : ℕ) × (0 < k) × (k ≢ 9) × (SHAPE ≡ refused k)
shape = (2, omega arith, λ e. (omega arith), refl)

no_file : (k : ℕ) × (0 < k) × (k ≢ 9) × (NO_FILE ≡ refused k)
no_file = (6, omega arith, λ e. (omega arith), refl)

range : (k : ℕ) × (0 < k) × (k ≢ 9) × (RANGE ≡ refused k)
range = (7, omega arith, λ e. (omega arith), refl)

books : (k : ℕ) × (0 < k) × (k ≢ 9) × (BOOKS ≡ refused k)
books = (4, omega arith, λ e. (omega arith), refl)

none : (ts : List Test) → Changeless ts → (first_refusal ts (done 0)).count ≤ 0
none ts h = first_by (λ a. a.count ≤ 0) ts (done 0) h (λ k lo hi. omega arith) (λ e. omega arith)

pub page-small : (page bytes : List ℕ) → (page_answer page bytes).count ≤ 0
unfolding page_answer
page-small page bytes = none (test (eqb (length page) page_bytes) SHAPE ∷ test (eqb (length bytes) page_bytes) SHAPE ∷ []) (shape, (shape, tt))

pub size_small : (P : ℕ) (m : Media) (f n : ℕ) → (size_answer P m f n).count ≤ 0
unfolding size_answer size_tests
size_small P m f n = none (size_tests P m f n) (shape, (shape, (no_file, (range, tt))))

pub trim-small : (P : ℕ) (m : Media) (f n : ℕ) → (trim_answer P m f n).count ≤ 0
unfolding trim_answer size_tests
trim-small P m f n = none (size_tests P m f n ++ (stored_test m f n ∷ [])) (shape, (shape, (no_file, (range, (range, tt)))))

pub rule_small : (greatest n : ℕ) (s : FileSizes) → (sizes_answer greatest n s).count ≤ 0
unfolding sizes_answer sizes_tests
rule_small greatest n s = none (sizes_tests greatest n s) (books, (range, tt))
