-- What the model files say of the cache: which pages are cached, the floor, the media writes of a sync, and room for a write.
use Rattle.std.specs.Prelude.{ℕ, zero, suc, ◌+◌, ◌*◌, ◌/◌, min, max, Bool, true, false, not, cond, ◌&&◌, ◌||◌, List, [], ◌∷◌, ◌++◌, eqb, ltb, length, get_or}
use Rattle.memory.specs.Bytes.{part, overwrite}
use Rattle.media.specs.Geometry.{files, page_bytes}
use Rattle.media.specs.Write.{MediaWrite}
use Rattle.media.specs.Write.MediaWrite.{page, size, trim}
use Rattle.device.specs.Device.{slot_count}
use Rattle.device.specs.Writing.{blank_page}
use Rattle.device.specs.Plan.{write_if}
use Rattle.model.specs.ModelFile.{Entry, ModelFile, posix_write, posix_truncate}
use Rattle.model.specs.ModelFile.Entry.{written, truncated}

-- ---- cached pages

-- a file after an entry that is carried out
abbrev pub carried_out : List ℕ → Entry → List ℕ
carried_out file (written position bytes) = posix_write file position bytes
carried_out file (truncated n) = posix_truncate file n

-- page p after an entry: a write caches it that puts a byte into it, whatever byte was there; a truncate to where it begins or before
-- frees it. `byte i` is byte i of the file before the entry; this rule does not ask for it, and that of document 02, §2 will
abbrev pub cached_after : (ℕ → ℕ) → Entry → ℕ → Bool → Bool
cached_after byte (written position bytes) p before = before || ltb (max position (page_bytes * p)) (min (position + length bytes) (page_bytes * suc p))
cached_after byte (truncated n) p before = before && ltb (page_bytes * p) n

-- after a whole log, each entry on what those before it left
abbrev pub cached_by : List ℕ → List Entry → ℕ → Bool → Bool
cached_by file [] p before = before
cached_by file (e ∷ log) p before = cached_by (carried_out file e) log p (cached_after (λ i. get_or file i 0) e p before)

-- none is cached after a mount, none of the file after its sync, and the log says the rest
abbrev pub cached_in : ModelFile → ℕ → Bool
cached_in m p = cached_by m.durable m.log p false

-- ---- the floor (document 01: the cut size)

-- the smallest of a size and of the truncates in a log
abbrev pub smallest : ℕ → List Entry → ℕ
smallest n [] = n
smallest n (written position bytes ∷ log) = smallest n log
smallest n (truncated k ∷ log) = smallest (min n k) log

abbrev pub floor_of : ModelFile → ℕ
floor_of m = smallest (length m.durable) m.log

-- ---- the media writes of a sync of file f

-- page p of a file, with zeros past its end
unfoldable pub page_of : List ℕ → ℕ → List ℕ
page_of file p = overwrite blank_page 0 (part file (page_bytes * p) page_bytes)

-- PAGE for each page that is cached, ascending: of n pages from page p on
unfoldable pub pages_by_log : ModelFile → ℕ → ℕ → ℕ → List MediaWrite
pages_by_log m f zero p = []
pages_by_log m f (suc n) p = write_if (cached_in m p) (page f p (page_of m.current p)) ++ pages_by_log m f n (suc p)

-- TRIM to the floor, if that is below the durable size; the pages; SIZE, if the current size differs from the floor
unfoldable pub sync_by_log : ℕ → ModelFile → ℕ → List MediaWrite
sync_by_log P m f =
    let size-now : ℕ = length m.current in
    write_if (ltb (floor_of m) (length m.durable)) (trim f (floor_of m)) ++ (pages_by_log m f P 0 ++ write_if (not (eqb size-now (floor_of m))) (size f size-now))

-- ---- room for a write

-- the sum at n numbers from p on
abbrev pub sum_from : (ℕ → ℕ) → ℕ → ℕ → ℕ
sum_from a zero p = 0
sum_from a (suc n) p = a p + sum_from a n (suc p)

-- how many pages of P in a file are cached, over all files
abbrev pub cached_pages : ℕ → (ℕ → ModelFile) → ℕ
cached_pages P fs = sum_from (λ f. sum_from (λ p. cond (cached_in (fs f) p) 1 0) P 0) files 0

-- a write has no byte, or its first page is cached, or not all slots are taken
abbrev pub room_for : ℕ → (ℕ → ModelFile) → ℕ → ℕ → List ℕ → Bool
room_for P fs f position [] = true
room_for P fs f position (b ∷ bytes) = cached_in (fs f) (position / page_bytes) || ltb (cached_pages P fs) slot_count
