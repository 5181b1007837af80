-- The media and its three writes, as data: document 01, "The media".
use Rattle.std.specs.Prelude.{ℕ, ◌+◌, ◌-◌, ◌≤◌, ◌<◌, ◌≡◌, List, [], ◌∷◌, length, get_or, set}
use Rattle.memory.specs.Bytes.{zeros, overwrite}
use Rattle.media.specs.Geometry.{files, page_bytes, file_bytes, file_start, page_start}

-- the bytes of the files, one file after the other, and their stored sizes
pub record Media : Type 0 where
  pub bytes : List ℕ
  pub sizes : List ℕ

abbrev pub media_of : List ℕ → List ℕ → Media
media_of bytes sizes = record { bytes = bytes; sizes = sizes }

-- byte i of file f
abbrev pub byte_at : ℕ → Media → ℕ → ℕ → ℕ
byte_at P m f i = get_or m.bytes (file_start P f + i) 0

abbrev pub size_at : Media → ℕ → ℕ
size_at m f = get_or m.sizes f 0

-- a media write (document 01: a store)
pub data MediaWrite : Type 0 where
  -- PAGE: the bytes of page p of file f are replaced
  page : (f p : ℕ) (bytes : List ℕ) → MediaWrite
  -- SIZE: the stored size of file f is replaced
  size : (f n : ℕ) → MediaWrite
  -- TRIM: the bytes of file f from n on become 0, and its stored size becomes n
  trim : (f n : ℕ) → MediaWrite

-- the media after a write, which is done whole
abbrev pub apply : ℕ → Media → MediaWrite → Media
apply P m (page f p bytes) = media_of (overwrite m.bytes (page_start P f p) bytes) m.sizes
apply P m (size f n) = media_of m.bytes (set m.sizes f n)
apply P m (trim f n) = media_of (overwrite m.bytes (file_start P f + n) (zeros (file_bytes P - n))) (set m.sizes f n)

-- within the limits of the media
abbrev pub InLimits : ℕ → MediaWrite → Type 0
InLimits P (page f p bytes) = (f < files) × (p < P) × (length bytes ≡ page_bytes)
InLimits P (size f n) = (f < files) × (n ≤ file_bytes P)
InLimits P (trim f n) = (f < files) × (n ≤ file_bytes P)

-- the file that a write is to
abbrev pub file_of : MediaWrite → ℕ
file_of (page f p bytes) = f
file_of (size f n) = f
file_of (trim f n) = f

-- Q holds of every write of a list
abbrev pub All : (MediaWrite → Type 0) → List MediaWrite → Type 0
All Q [] = Unit {0}
All Q (w ∷ ws) = Q w × All Q ws

-- the media after a list of writes, in their order
abbrev pub apply_all : ℕ → Media → List MediaWrite → Media
apply_all P m [] = m
apply_all P m (w ∷ ws) = apply_all P (apply P m w) ws
