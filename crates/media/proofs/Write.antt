-- Laws of the media writes: lengths stay, byte i of file g and its size after each write, other files untouched.
use mathlib.Core.Path.{◌≡◌, refl, ◌∙◌}
use mathlib.Core.Logic.{◌≢◌}
use mathlib.Core.Bool.{cond, ◌&&◌}
use mathlib.Core.List.{List, [], ◌∷◌, ◌++◌}
use Prim.Native.Nat.{ℕ, ◌+◌, ◌*◌, ◌-◌, ◌/◌, ◌%◌, ◌<◌, ◌≤◌}
use native.Mathlib.Omega.{arith}
use lib.Dec.{leb, eqb}
use lib.ListN.{length, get_or, set, length-set, length-replicate}
use lib.Seq.{get_or-set_same, get_or-set_other}
use borrow.Author.Tests.{eq-eqb, ne_eqb, le-leb, lt-leb}
use Rattle.memory.specs.Bytes.{zeros, overwrite}
use Rattle.memory.proofs.Cases.{split_lt, split_eq}
use Rattle.memory.proofs.Bytes.{get_or-zeros, length-overwrite, overwrite-before, overwrite_in, overwrite-after}
use Rattle.media.specs.Geometry.{files, page_bytes, file_bytes, media_bytes, file_start, page_start}
use Rattle.media.specs.Write.{Media, MediaWrite, byte_at, size_at, apply, InLimits, file_of, All, apply_all}
use Rattle.media.specs.Write.MediaWrite.{page, size, trim}
use Rattle.media.proofs.Geometry.{file-before, file_end, page_end}

module _ (P : ℕ) where
  -- ---- lengths

  pub bytes_stay : (m : Media) (w : MediaWrite) → length (apply P m w).bytes ≡ length m.bytes
  bytes_stay m (page f p bytes) = simp length-overwrite
  bytes_stay m (size f n) = refl
  bytes_stay m (trim f n) = simp length-overwrite

  pub sizes_stay : (m : Media) (w : MediaWrite) → length (apply P m w).sizes ≡ length m.sizes
  sizes_stay m (page f p bytes) = refl
  sizes_stay m (size f n) = simp length-set
  sizes_stay m (trim f n) = simp length-set

  -- ---- the size of file g

  size_set_lem : (sizes : List ℕ) (f n g : ℕ) → g < length sizes → get_or (set sizes f n) g 0 ≡ cond (eqb g f) n (get_or sizes g 0)
  size_set_lem sizes f n g h =
      split_eq g f
      (λ e. rw (e, eq-eqb f f refl) (get_or-set_same sizes f n 0 (rw e at h)))
      (λ ne. rw (ne_eqb g f ne) (get_or-set_other sizes f g n 0 ne))

  pub size_after-page : (m : Media) (f p : ℕ) (bytes : List ℕ) (g : ℕ) → size_at (apply P m (page f p bytes)) g ≡ size_at m g
  size_after-page m f p bytes g = refl

  module _ (m : Media) (f n g : ℕ) (h : g < length m.sizes) where
    pub size_after-size : size_at (apply P m (size f n)) g ≡ cond (eqb g f) n (size_at m g)
    size_after-size = size_set_lem m.sizes f n g h

    pub size_after-trim : size_at (apply P m (trim f n)) g ≡ cond (eqb g f) n (size_at m g)
    size_after-trim = size_set_lem m.sizes f n g h

  -- ---- byte i of file g

  module _ (m : Media) (sized : length m.bytes ≡ media_bytes P) (g i : ℕ) (hg : g < files) (hi : i < file_bytes P) where
    -- a byte of file g is unchanged by bytes written inside file f
    elsewhere : (f a : ℕ) (bytes : List ℕ) → g ≢ f → a + length bytes ≤ file_bytes P → get_or (overwrite m.bytes (file_start P f + a) bytes) (file_start P g + i) 0 ≡ byte_at P m g i
    elsewhere f a bytes ne h =
        split_lt g f
        (λ l. overwrite-before m.bytes _ bytes _ (omega (arith, file-before P g f l)))
        (λ l. overwrite-after m.bytes _ bytes _ (omega (arith, file-before P f g (omega arith))))

    -- the index of the byte lies within the media
    inside : file_start P g + i < length m.bytes
    inside = omega (arith, file_end P g hg)

    pub byte-after-trim : (f n : ℕ) → n ≤ file_bytes P → byte_at P (apply P m (trim f n)) g i ≡ cond (eqb g f && leb n i) 0 (byte_at P m g i)
    byte-after-trim f n hn =
        let rest : List ℕ = zeros (file_bytes P - n) in
        let l : length rest ≡ file_bytes P - n = length-replicate (file_bytes P - n) 0 in
        split_eq g f
        (λ e. rw (← e, eq-eqb g g refl)
        (split_lt i n
        (λ k. rw (lt-leb n i k) (overwrite-before m.bytes (file_start P g + n) rest (file_start P g + i) (omega arith)))
        (λ k. rw (le-leb n i k)
        (overwrite_in m.bytes (file_start P g + n) rest (file_start P g + i) (omega arith) (omega arith) inside ∙ get_or-zeros (file_bytes P - n) _))))
        (λ ne. rw (ne_eqb g f ne) (elsewhere f n rest ne (omega arith)))

    pub byte-after-page : (f p : ℕ) (bytes : List ℕ) → p < P → length bytes ≡ page_bytes
        → byte_at P (apply P m (page f p bytes)) g i ≡ cond (eqb g f && eqb (i / page_bytes) p) (get_or bytes (i % page_bytes) 0) (byte_at P m g i)
    byte-after-page f p bytes hp hb =
        let a : ℕ = page_start P g p in
        let k : ℕ = file_start P g + i in
        split_eq g f
        (λ e. rw (← e, eq-eqb g g refl)
        (split_eq (i / page_bytes) p
        (λ d. let z : k - a ≡ i % page_bytes = omega arith in
        rw (eq-eqb _ _ d, ← z) (overwrite_in m.bytes a bytes k (omega arith) (omega arith) inside))
        (λ d. rw (ne_eqb _ _ d)
        (split_lt k a (overwrite-before m.bytes a bytes k) (λ h. overwrite-after m.bytes a bytes k (omega arith))))))
        (λ ne. rw (ne_eqb g f ne) (elsewhere f (page_bytes * p) bytes ne (omega (arith, page_end P p hp))))

    pub byte-after-size : (f n : ℕ) → byte_at P (apply P m (size f n)) g i ≡ byte_at P m g i
    byte-after-size f n = refl

    -- a write to another file leaves file g unchanged
    pub other_byte : (w : MediaWrite) → InLimits P w → g ≢ file_of w → byte_at P (apply P m w) g i ≡ byte_at P m g i
    other_byte (page f p bytes) h ne = rw (byte-after-page f p bytes h.1 h.2, ne_eqb g f ne)
    other_byte (size f n) h ne = refl
    other_byte (trim f n) h ne = rw (byte-after-trim f n h.1, ne_eqb g f ne)

  pub other_size : (m : Media) (g : ℕ) (w : MediaWrite) → g ≢ file_of w → size_at (apply P m w) g ≡ size_at m g
  other_size m g (page f p bytes) ne = refl
  other_size m g (size f n) ne = get_or-set_other m.sizes f g n 0 ne
  other_size m g (trim f n) ne = get_or-set_other m.sizes f g n 0 ne

  -- ---- lists of writes

  pub all_append : (m : Media) (ws vs : List MediaWrite) → apply_all P m (ws ++ vs) ≡ apply_all P (apply_all P m ws) vs
  all_append m [] vs = refl
  all_append m (w ∷ ws) vs = all_append (apply P m w) ws vs

  pub all_bytes_stay : (m : Media) (ws : List MediaWrite) → length (apply_all P m ws).bytes ≡ length m.bytes
  all_bytes_stay m [] = refl
  all_bytes_stay m (w ∷ ws) = all_bytes_stay (apply P m w) ws ∙ bytes_stay m w

  pub all_sizes_stay : (m : Media) (ws : List MediaWrite) → length (apply_all P m ws).sizes ≡ length m.sizes
  all_sizes_stay m [] = refl
  all_sizes_stay m (w ∷ ws) = all_sizes_stay (apply P m w) ws ∙ sizes_stay m w

  -- file g is unchanged by writes to other files
  pub others-byte : (m : Media) (ws : List MediaWrite) (g i : ℕ) → length m.bytes ≡ media_bytes P → g < files → i < file_bytes P → All (λ w. InLimits P w × (g ≢ file_of w)) ws
      → byte_at P (apply_all P m ws) g i ≡ byte_at P m g i
  others-byte m [] g i sized hg hi h = refl
  others-byte m (w ∷ ws) g i sized hg hi h =
      others-byte (apply P m w) ws g i (bytes_stay m w ∙ sized) hg hi h.1 ∙ other_byte m sized g i hg hi w h.0.0 h.0.1

  pub others-size : (m : Media) (ws : List MediaWrite) (g : ℕ) → All (λ w. g ≢ file_of w) ws → size_at (apply_all P m ws) g ≡ size_at m g
  others-size m [] g h = refl
  others-size m (w ∷ ws) g h = others-size (apply P m w) ws g h.1 ∙ other_size m g w h.0
