-- The media asked directly: what each write answers, and what it leaves in all it borrowed.
use Rattle.std.specs.Prelude.{ℕ, ◌≡◌, ◌<◌, ◌≤◌, List, [], ◌∷◌, ◌++◌, ltb, leb, eqb, length}
use Rattle.answer.specs.Coded.{Coded, done, SHAPE, NO_FILE, RANGE}
use Rattle.answer.specs.Admission.{Test, test, first_refusal, if_done}
use Rattle.media.specs.Geometry.{files, page_bytes, file_bytes, media_bytes}
use Rattle.media.specs.Write.{Media, size_at, apply}
use Rattle.media.specs.Write.MediaWrite.{size, trim}

-- PAGE borrows the one page that it may write, and the new bytes
unfoldable pub page_answer : List ℕ → List ℕ → Coded
page_answer page bytes =
    first_refusal
    (test (eqb (length page) page_bytes) SHAPE
    ∷ test (eqb (length bytes) page_bytes) SHAPE
    ∷ [])
    (done 0)

unfoldable pub page_after : List ℕ → List ℕ → List ℕ
page_after page bytes = if_done (page_answer page bytes) bytes page

-- SIZE
unfoldable pub size_tests : ℕ → Media → ℕ → ℕ → List Test
size_tests P m f n =
    test (eqb (length m.bytes) (media_bytes P)) SHAPE
    ∷ test (eqb (length m.sizes) files) SHAPE
    ∷ test (ltb f files) NO_FILE
    ∷ test (leb n (file_bytes P)) RANGE
    ∷ []

-- what it has tested where it is done
pub record Admitted (P : ℕ) (m : Media) (f n : ℕ) : Type 0 where
  pub bytes : length m.bytes ≡ media_bytes P
  pub sizes : length m.sizes ≡ files
  pub file : f < files
  pub range : n ≤ file_bytes P

unfoldable pub size_answer : ℕ → Media → ℕ → ℕ → Coded
size_answer P m f n = first_refusal (size_tests P m f n) (done 0)

unfoldable pub size_after : ℕ → Media → ℕ → ℕ → Media
size_after P m f n = if_done (size_answer P m f n) (apply P m (size f n)) m

-- TRIM: the tests of SIZE, and n is not above the stored size
abbrev pub stored_test : Media → ℕ → ℕ → Test
stored_test m f n = test (leb n (size_at m f)) RANGE

unfoldable pub trim_answer : ℕ → Media → ℕ → ℕ → Coded
trim_answer P m f n = first_refusal (size_tests P m f n ++ (stored_test m f n ∷ [])) (done 0)

unfoldable pub trim_after : ℕ → Media → ℕ → ℕ → Media
trim_after P m f n = if_done (trim_answer P m f n) (apply P m (trim f n)) m
