-- Write: document 01, "The calls". Page by page, ascending.
use Rattle.std.specs.Prelude.{ℕ, zero, suc, ◌+◌, ◌-◌, ◌*◌, ◌/◌, ◌%◌, min, max, Bool, true, cond, List, [], ◌∷◌, ◌++◌, eqb, ltb, leb, length, set, take, drop}
use Rattle.answer.specs.Coded.{done, NO_ROOM}
use Rattle.answer.specs.Admission.{test}
use Rattle.memory.specs.Bytes.{zeros, part, overwrite}
use Rattle.media.specs.Geometry.{page_bytes, file_bytes, page_start}
use Rattle.device.specs.Device.{Device, device_of, slot_count, frame_start, slot_of, is_cached, first_free, used_slot, logical_at, floor_at, with_slots, with_logical}
use Rattle.device.specs.Admission.{Result, give, admit, file_tests}

-- page p of file f is cached, or there is a slot for it
abbrev pub has_slot : Device → ℕ → ℕ → Bool
has_slot d f p = cond (is_cached d f p) true (ltb (first_free d) slot_count)

unfoldable pub blank_page : List ℕ
blank_page = zeros page_bytes

-- page p of file f as it becomes cached: a blank page, overlaid with the bytes of the media below the floor
unfoldable pub filled_page : ℕ → Device → ℕ → ℕ → List ℕ
filled_page P d f p =
    overwrite blank_page 0 (part d.media.bytes (page_start P f p) (min page_bytes (floor_at d f - page_bytes * p)))

-- page p of file f becomes cached
unfoldable pub cache_page : ℕ → ℕ → ℕ → Device → Device
cache_page P f p d =
    device_of d.media
    (overwrite d.frames (frame_start (first_free d)) (filled_page P d f p))
    (with_slots d.cache (set d.cache.slots (first_free d) (used_slot f p)))

-- the bytes are laid into the frame of page p, which is cached, from the offset on
unfoldable pub patch_page : ℕ → ℕ → ℕ → List ℕ → Device → Device
patch_page f p offset bytes d =
    device_of d.media (overwrite d.frames (frame_start (slot_of d f p) + offset) bytes) d.cache

-- one page takes its piece; it becomes cached first where it is not
unfoldable pub put_page : ℕ → ℕ → ℕ → ℕ → List ℕ → Device → Device
put_page P f p offset bytes d = patch_page f p offset bytes (cond (is_cached d f p) d (cache_page P f p d))

-- the device, and how many bytes were put down
pub record Written : Type 0 where
  pub device : Device
  pub count : ℕ

abbrev pub and_more : ℕ → Written → Written
and_more n w = record { device = w.device; count = n + w.count }

-- the first piece goes to the end of the page that the position is in; the next page begins where it stopped.
-- It stops at the first page that has no slot. The number bounds the pages.
abbrev pub put_pages : ℕ → ℕ → ℕ → ℕ → List ℕ → Device → Written
put_pages P f zero position bytes d = record { device = d; count = 0 }
put_pages P f (suc n) position [] d = record { device = d; count = 0 }
put_pages P f (suc n) position (b ∷ bs) d =
    let bytes : List ℕ = b ∷ bs in
    let p : ℕ = position / page_bytes in
    let offset : ℕ = position % page_bytes in
    let piece : List ℕ = take (page_bytes - offset) bytes in
    cond (has_slot d f p)
    (and_more (length piece) (put_pages P f n (page_bytes * suc p) (drop (page_bytes - offset) bytes) (put_page P f p offset piece d)))
    (record { device = d; count = 0 })

-- a write that puts down at least one byte makes the file at least as long as where it ends
unfoldable pub grown : ℕ → ℕ → Written → Device
grown f position w =
    let d : Device = w.device in
    cond (eqb w.count 0) d
    (device_of d.media d.frames (with_logical d.cache f (max (logical_at d f) (position + w.count))))

-- a write of at least one byte has a slot for its first page
abbrev pub has_room : Device → ℕ → ℕ → List ℕ → Bool
has_room d f position [] = true
has_room d f position (b ∷ bs) = has_slot d f (position / page_bytes)

unfoldable pub write : ℕ → ℕ → ℕ → List ℕ → Device → Result Device
write P f position bytes d =
    let w : Written = put_pages P f P position bytes d in
    admit (file_tests P d f (leb (position + length bytes) (file_bytes P)) ++ (test (has_room d f position bytes) NO_ROOM ∷ [])) d
    (give (done w.count) (grown f position w))
