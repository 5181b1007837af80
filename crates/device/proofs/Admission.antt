-- A call's cases: refused with everything as it came, or admitted with what its tests showed.
use mathlib.Core.Path.{◌≡◌, refl, sym, ap, ◌∙◌}
use mathlib.Core.Logic.{◌≢◌}
use mathlib.Core.Bool.{Bool, true, false, false≢true}
use mathlib.Core.List.{List, [], ◌∷◌, ◌++◌, map}
use Prim.Native.Nat.{ℕ, ◌<◌, ◌≤◌}
use native.Mathlib.Omega.{arith}
use lib.Dec.{leb, eqb}
use lib.ListN.{length, get_or}
use borrow.Author.Tests.{ne_eqb, eqb-true, ltb-true, leb-true, eq-eqb, lt-ltb, le-leb}
use borrow.Table.Steps.{cases}
use Rattle.answer.specs.Coded.{refused, LINE, SHAPE, MEDIA, BOOKS, DOWN, NO_FILE, RANGE, Coded, done, coded_refusal}
use Rattle.answer.proofs.Admission.{passed, passed_at, Changeless, refusing}
use Rattle.answer.specs.Admission.{Test, test, first_refusal}
use Rattle.answer.proofs.Coded.{refusal-number}
use Rattle.answer.specs.declared.Refusal.{Refusal}
use Rattle.media.specs.Geometry.{files, file_bytes, media_bytes}
use Rattle.media.specs.Write.{Media}
use Rattle.scan.specs.Scan.{every}
use Rattle.device.specs.Device.{Device, frames_bytes}
use Rattle.device.specs.Sound.{is_sound}
use Rattle.device.specs.Admission.{Result, give, admit, media_shape, frames_shape, sizes_fit, state_tests, mount_tests, device_tests, file_tests}
use Rattle.scan.proofs.Scan.{every_at, every_all}
use Rattle.device.proofs.Sound.{Fit, fit-sound}

module _ {A : Type 0} (before : A) where
  -- a call is refused with everything as it came, or all its tests hold
  pub admit_by : (Q : Result A → Type 0) (ts : List Test) (r : Result A) → Changeless ts
      → ((k : ℕ) → 0 < k → k ≢ 9 → Q (give (refused k) before)) → (passed ts ≡ true → Q r) → Q (admit ts before r)
  admit_by Q [] r e fails holds = holds refl
  admit_by Q (t ∷ ts) r e fails holds =
      cases t.holds
      (λ h. rw h (admit_by Q ts r e.1 fails (λ p. holds (rw h p))))
      (λ h. rw (h, e.0.3) (fails e.0.0 e.0.1 e.0.2))

  -- the answer is by the first test that fails
  pub admit-answer : (ts : List Test) (r : Result A) → (admit ts before r).answer ≡ first_refusal ts r.answer
  admit-answer [] r = refl
  admit-answer (t ∷ ts) r = cases t.holds (λ h. rw h (admit-answer ts r)) (λ h. rw h)

-- ---- what an answer of the code shows

-- a refusal is what the call gives, with everything as it came
pub admit-refused : {A : Type 0} (ts : List Test) (before : A) (r : Result A) (x : Refusal) → coded_refusal x ≡ first_refusal ts (done 0)
    → give (coded_refusal x) before ≡ admit ts before r
admit-refused [] before r x e = absurd (false≢true (sym (refusal-number x) ∙ ap (λ (a : Coded). eqb a.number 0) e))
admit-refused (t ∷ ts) before r x e =
    cases t.holds
    (λ h. rw h (admit-refused ts before r x (rw h at e)))
    (λ h. let q : coded_refusal x ≡ t.refusal = rw h at e in rw (h, q))

pub admit-passed : {A : Type 0} (ts : List Test) (before : A) (r : Result A) → passed ts ≡ true → r ≡ admit ts before r
admit-passed [] before r e = refl
admit-passed (t ∷ ts) before r e =
    cases t.holds (λ h. rw h (admit-passed ts before r (rw h at e))) (λ h. absurd (false≢true (rw h at e)))

module _ (P : ℕ) (d : Device) where
  -- ---- the calls on a file

  pub record Admitted (f : ℕ) (range : Bool) : Type 0 where
    pub bytes : length d.media.bytes ≡ media_bytes P
    pub sizes : length d.media.sizes ≡ files
    pub frames : length d.frames ≡ frames_bytes
    pub fit : every (λ n. leb n (file_bytes P)) d.media.sizes ≡ true
    pub sound : is_sound P d.media.sizes d.cache ≡ true
    pub mounted : d.cache.mounted ≡ 1
    pub file : f < files
    pub in_range : range ≡ true

  -- the order of the refusals
  pub file-order : (f : ℕ) (range : Bool)
      → map (λ t. t.refusal) (file_tests P d f range) ≡ SHAPE ∷ SHAPE ∷ SHAPE ∷ MEDIA ∷ BOOKS ∷ DOWN ∷ NO_FILE ∷ RANGE ∷ []
  unfolding media_shape frames_shape sizes_fit state_tests
  file-order f range = refl

  pub file_changeless : (f : ℕ) (range : Bool) (us : List Test) → Changeless us → Changeless (file_tests P d f range ++ us)
  unfolding media_shape frames_shape sizes_fit state_tests
  file_changeless f range us e = ((2, omega arith, λ e. (omega arith), refl), ((2, omega arith, λ e. (omega arith), refl), ((2, omega arith, λ e. (omega arith), refl), ((3, omega arith, λ e. (omega arith), refl), ((4, omega arith, λ e. (omega arith), refl), ((5, omega arith, λ e. (omega arith), refl), ((6, omega arith, λ e. (omega arith), refl), ((7, omega arith, λ e. (omega arith), refl), e))))))))

  pub file-refusing : (f : ℕ) (range : Bool) → refusing (file_tests P d f range) ≡ true
  unfolding media_shape frames_shape sizes_fit state_tests
  file-refusing f range = refl

  pub file_admitted : (f : ℕ) (range : Bool) → passed (file_tests P d f range) ≡ true → Admitted f range
  unfolding media_shape frames_shape sizes_fit state_tests
  file_admitted f range e =
      let at : (k : ℕ) → (get_or (file_tests P d f range) k (test true LINE)).holds ≡ true = passed_at (file_tests P d f range) e in
      record {
        bytes = eqb-true _ _ (at 0);
        sizes = eqb-true _ _ (at 1);
        frames = eqb-true _ _ (at 2);
        fit = at 3;
        sound = at 4;
        mounted = eqb-true _ _ (at 5);
        file = ltb-true _ _ (at 6);
        in_range = at 7;
      }

  -- the cases of a call on a file
  pub file_by : {A : Type 0} (Q : Result A → Type 0) (f : ℕ) (range : Bool) (before : A) (r : Result A)
      → ((k : ℕ) → 0 < k → k ≢ 9 → Q (give (refused k) before)) → (Admitted f range → Q r) → Q (admit (file_tests P d f range) before r)
  unfolding media_shape frames_shape sizes_fit state_tests
  file_by Q f range before r fails holds =
      admit_by before Q (file_tests P d f range) r (file_changeless f range [] tt) fails (λ e. holds (file_admitted f range e))

  fits_all : length d.media.sizes ≡ files → ((f : ℕ) → f < files → get_or d.media.sizes f 0 ≤ file_bytes P)
      → every (λ n. leb n (file_bytes P)) d.media.sizes ≡ true
  fits_all count fit = every_all (λ n. leb n (file_bytes P)) d.media.sizes 0 (λ k h. le-leb _ _ (fit k (rw count at h)))

  -- a mounted device in good order is refused only for its arguments
  pub file_passes : (f : ℕ) (range : Bool) → Fit P d → d.cache.mounted ≡ 1 → length d.frames ≡ frames_bytes → f < files → range ≡ true
      → passed (file_tests P d f range) ≡ true
  unfolding media_shape frames_shape sizes_fit state_tests
  file_passes f range x up fr hf hr =
      rw (eq-eqb _ _ x.bytes, eq-eqb _ _ x.sizes.stored_count, eq-eqb _ _ fr, fits_all x.sizes.stored_count x.sizes.stored_fits, fit-sound P d x up, eq-eqb _ _ up, lt-ltb _ _ hf, hr)

  -- ---- mount and format

  pub record Mountable : Type 0 where
    pub bytes : length d.media.bytes ≡ media_bytes P
    pub sizes : length d.media.sizes ≡ files
    pub fit : (f : ℕ) → f < files → get_or d.media.sizes f 0 ≤ file_bytes P

  pub mount-order : map (λ t. t.refusal) (mount_tests P d.media) ≡ SHAPE ∷ SHAPE ∷ MEDIA ∷ []
  unfolding media_shape sizes_fit
  mount-order = refl

  pub shape_changeless : Changeless (media_shape P d.media)
  unfolding media_shape
  shape_changeless = ((2, omega arith, λ e. (omega arith), refl), ((2, omega arith, λ e. (omega arith), refl), tt))

  pub shape-refusing : refusing (media_shape P d.media) ≡ true
  unfolding media_shape
  shape-refusing = refl

  pub shape_admitted : passed (media_shape P d.media) ≡ true → (length d.media.bytes ≡ media_bytes P) × (length d.media.sizes ≡ files)
  unfolding media_shape
  shape_admitted e = (eqb-true _ _ (passed_at (media_shape P d.media) e 0), eqb-true _ _ (passed_at (media_shape P d.media) e 1))

  pub mount_changeless : Changeless (mount_tests P d.media)
  unfolding media_shape sizes_fit
  mount_changeless = ((2, omega arith, λ e. (omega arith), refl), ((2, omega arith, λ e. (omega arith), refl), ((3, omega arith, λ e. (omega arith), refl), tt)))

  pub mount-refusing : refusing (mount_tests P d.media) ≡ true
  unfolding media_shape sizes_fit
  mount-refusing = refl

  pub mount_admitted : passed (mount_tests P d.media) ≡ true → Mountable
  unfolding media_shape sizes_fit
  mount_admitted e =
      let at : (k : ℕ) → (get_or (mount_tests P d.media) k (test true LINE)).holds ≡ true = passed_at (mount_tests P d.media) e in
      let count : length d.media.sizes ≡ files = eqb-true _ _ (at 1) in
      record {
        bytes = eqb-true _ _ (at 0);
        sizes = count;
        fit = λ f h. leb-true _ _ (every_at (λ n. leb n (file_bytes P)) d.media.sizes 0 (at 2) f (rw count h));
      }

  pub mount_passes : Mountable → passed (mount_tests P d.media) ≡ true
  unfolding media_shape sizes_fit
  mount_passes x = rw (eq-eqb _ _ x.bytes, eq-eqb _ _ x.sizes, fits_all x.sizes x.fit)

-- the page frames: SHAPE whatever the media is; or else the tests of a mount decide
module _ (P : ℕ) (m : Media) (frames : List ℕ) where
  pub frames-refused : length frames ≢ frames_bytes → SHAPE ≡ first_refusal (device_tests P m frames) (done 0)
  unfolding media_shape frames_shape
  frames-refused h =
      cases (eqb (length m.bytes) (media_bytes P))
      (λ b. cases (eqb (length m.sizes) files) (λ s. rw (b, s, ne_eqb _ _ h)) (λ s. rw (b, s)))
      (λ b. rw b)

  pub frames-passed : length frames ≡ frames_bytes → first_refusal (mount_tests P m) (done 0) ≡ first_refusal (device_tests P m frames) (done 0)
  unfolding media_shape frames_shape
  frames-passed h = rw (eq-eqb _ _ h)

-- the stored sizes: done where all fit, or else MEDIA
module _ (P : ℕ) (m : Media) where
  pub fit-done : every (λ n. leb n (file_bytes P)) m.sizes ≡ true → done 0 ≡ first_refusal (sizes_fit P m) (done 0)
  unfolding sizes_fit
  fit-done e = rw e

  pub fit_refused : every (λ n. leb n (file_bytes P)) m.sizes ≡ false → MEDIA ≡ first_refusal (sizes_fit P m) (done 0)
  unfolding sizes_fit
  fit_refused e = rw e
