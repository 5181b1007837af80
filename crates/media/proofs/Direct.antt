-- Laws of the media asked directly: what each answer says, and what it leaves.
use mathlib.Core.Path.{◌≡◌, refl, sym, ap}
use mathlib.Core.Logic.{◌≢◌, ◌⊎◌, ⊎_elim}
use mathlib.Core.List.{List, [], ◌∷◌}
use Prim.Native.Nat.{ℕ, ◌<◌, ◌≤◌}
use native.Mathlib.Omega.{arith}
use lib.ListN.{length}
use borrow.Author.Tests.{eq-eqb, ne_eqb, lt-ltb, le-ltb, le-leb, lt-leb}
use Rattle.answer.specs.declared.Refusal.{Refusal}
use Rattle.answer.specs.Coded.{Coded, coded_refusal, done, SHAPE, NO_FILE, RANGE}
use Rattle.answer.specs.Admission.{first_refusal}
use Rattle.answer.proofs.Admission.{if_refused, first-passed, first-refused}
use Rattle.memory.specs.Bytes.{part, overwrite}
use Rattle.memory.proofs.Bytes.{length_part}
use Rattle.media.specs.Geometry.{files, page_bytes, file_bytes, media_bytes, page_start}
use Rattle.media.specs.Write.{Media, media_of, size_at, apply, InLimits}
use Rattle.media.specs.Write.MediaWrite.{page, size, trim}
use Rattle.media.specs.Direct.{page_answer, page_after, size_tests, size_answer, size_after, Admitted, stored_test, trim_answer, trim_after}
use Rattle.media.proofs.Geometry.{file_end, page_end}

-- ---- PAGE

-- the answer, and the page that is left
module _ (page bytes : List ℕ) where
  page-unchanged : SHAPE ≡ page_answer page bytes → page ≡ page_after page bytes
  unfolding page_after
  page-unchanged e = rw (← e)

  pub page-shape : length page ≢ page_bytes → (SHAPE ≡ page_answer page bytes) × (page ≡ page_after page bytes)
  unfolding page_answer
  page-shape h = let e : SHAPE ≡ page_answer page bytes = rw (ne_eqb _ _ h) in (e, page-unchanged e)

  pub bytes-shape : length page ≡ page_bytes → length bytes ≢ page_bytes → (SHAPE ≡ page_answer page bytes) × (page ≡ page_after page bytes)
  unfolding page_answer
  bytes-shape h k = let e : SHAPE ≡ page_answer page bytes = rw (eq-eqb _ _ h, ne_eqb _ _ k) in (e, page-unchanged e)

  -- both, of the first that fails
  pub lengths-shape : (length page ≢ page_bytes) ⊎ ((length page ≡ page_bytes) × (length bytes ≢ page_bytes)) → (SHAPE ≡ page_answer page bytes) × (page ≡ page_after page bytes)
  lengths-shape h = ⊎_elim page-shape (λ (q, n). bytes-shape q n) h

  pub page-done : length page ≡ page_bytes → length bytes ≡ page_bytes → (done 0 ≡ page_answer page bytes) × (bytes ≡ page_after page bytes)
  unfolding page_answer page_after
  page-done h k = let e : done 0 ≡ page_answer page bytes = rw (eq-eqb _ _ h, eq-eqb _ _ k) in (e, rw (← e))

-- PAGE with page p of file f borrowed from the media does what `apply` says
pub page_in-place : (P : ℕ) (m : Media) (f p : ℕ) (bytes : List ℕ) → length m.bytes ≡ media_bytes P → InLimits P (page f p bytes)
    → media_of (overwrite m.bytes (page_start P f p) (page_after (part m.bytes (page_start P f p) page_bytes) bytes)) m.sizes ≡ apply P m (page f p bytes)
page_in-place P m f p bytes sized h =
    let l = length_part m.bytes (page_start P f p) page_bytes (omega (arith, file_end P f h.0, page_end P p h.1)) in
    rw (← (page-done (part m.bytes (page_start P f p) page_bytes) bytes l h.2).1)

-- ---- SIZE and TRIM

-- the answer of SIZE by the first test that fails
module _ (P : ℕ) (m : Media) (f n : ℕ) where
  pub size-shape : length m.bytes ≢ media_bytes P → SHAPE ≡ size_answer P m f n
  unfolding size_tests size_answer
  size-shape h = rw (ne_eqb _ _ h)

  pub sizes-shape : length m.bytes ≡ media_bytes P → length m.sizes ≢ files → SHAPE ≡ size_answer P m f n
  unfolding size_tests size_answer
  sizes-shape h k = rw (eq-eqb _ _ h, ne_eqb _ _ k)

  -- both, of the first that fails
  pub media-shape : (length m.bytes ≢ media_bytes P) ⊎ ((length m.bytes ≡ media_bytes P) × (length m.sizes ≢ files)) → SHAPE ≡ size_answer P m f n
  media-shape h = ⊎_elim size-shape (λ (q, n). sizes-shape q n) h

  module _ (h : length m.bytes ≡ media_bytes P) (k : length m.sizes ≡ files) where
    pub size_no_file : files ≤ f → NO_FILE ≡ size_answer P m f n
    unfolding size_tests size_answer
    size_no_file l = rw (eq-eqb _ _ h, eq-eqb _ _ k, le-ltb _ _ l)

    pub size-range : f < files → file_bytes P < n → RANGE ≡ size_answer P m f n
    unfolding size_tests size_answer
    size-range l r = rw (eq-eqb _ _ h, eq-eqb _ _ k, lt-ltb _ _ l, lt-leb _ _ r)

    pub size-done : f < files → n ≤ file_bytes P → done 0 ≡ size_answer P m f n
    unfolding size_tests size_answer
    size-done l r = rw (eq-eqb _ _ h, eq-eqb _ _ k, lt-ltb _ _ l, le-leb _ _ r)

module _ (P : ℕ) (m : Media) (f n : ℕ) where
  -- SIZE is done on what it admits; TRIM too, unless n is above the stored size
  module _ (ok : Admitted P m f n) where
    pub size_accepted : done 0 ≡ size_answer P m f n
    size_accepted = size-done P m f n ok.bytes ok.sizes ok.file ok.range

    pub size_applied : apply P m (size f n) ≡ size_after P m f n
    unfolding size_after
    size_applied = rw (← size_accepted)

    trim-rest : trim_answer P m f n ≡ first_refusal (stored_test m f n ∷ []) (done 0)
    unfolding size_tests size_answer trim_answer
    trim-rest = first-passed (size_tests P m f n) (stored_test m f n ∷ []) (done 0) (done 0) refl (ap (λ (a : Coded). a.number) (sym size_accepted))

    pub trim-range : size_at m f < n → RANGE ≡ trim_answer P m f n
    trim-range h = rw (trim-rest, lt-leb _ _ h)

    pub trim-done : n ≤ size_at m f → done 0 ≡ trim_answer P m f n
    trim-done h = rw (trim-rest, le-leb _ _ h)

    pub trim_applied : n ≤ size_at m f → apply P m (trim f n) ≡ trim_after P m f n
    unfolding trim_after
    trim_applied h = rw (← trim-done h)

  -- what SIZE refuses, TRIM refuses
  pub trim-refused : (r : Refusal) → coded_refusal r ≡ size_answer P m f n → coded_refusal r ≡ trim_answer P m f n
  unfolding size_answer trim_answer
  trim-refused r e = first-refused (size_tests P m f n) (stored_test m f n ∷ []) (done 0) (done 0) r refl e

  -- a refusal changes nothing
  pub size-unchanged : (r : Refusal) → coded_refusal r ≡ size_answer P m f n → m ≡ size_after P m f n
  unfolding size_after
  size-unchanged r e = sym (if_refused _ r _ m e)

  pub trim-unchanged : (r : Refusal) → coded_refusal r ≡ trim_answer P m f n → m ≡ trim_after P m f n
  unfolding trim_after
  trim-unchanged r e = sym (if_refused _ r _ m e)
