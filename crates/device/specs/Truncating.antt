-- Truncate: document 01, "The calls".
use Rattle.std.specs.Prelude.{ℕ, ◌+◌, ◌-◌, ◌*◌, ◌/◌, ◌%◌, Bool, cond, ◌&&◌, map, eqb, leb}
use Rattle.answer.specs.Coded.{done}
use Rattle.memory.specs.Bytes.{zeros, overwrite}
use Rattle.media.specs.Geometry.{page_bytes, file_bytes}
use Rattle.device.specs.declared.CacheState.{CacheState}
use Rattle.device.specs.declared.FileSizes.{FileSizes}
use Rattle.device.specs.Device.{Device, device_of, frame_start, slot_of, is_cached, free_where, with_slots, with_logical, with_floor}
use Rattle.device.specs.Sizes.{truncated_sizes}
use Rattle.device.specs.Sound.{sizes_of}
use Rattle.device.specs.Admission.{Result, give, admit, file_tests}

-- the pages of file f that begin at or past n
abbrev pub pages_from : ℕ → ℕ → ℕ → ℕ → Bool
pages_from f n g p = eqb g f && leb n (page_bytes * p)

-- the cached page that n falls inside gets zeros from n on; pages that begin at or past n are freed before this, so none of
-- them is cached here
unfoldable pub clear_tail : ℕ → ℕ → Device → Device
clear_tail f n d =
    device_of d.media
    (cond (is_cached d f (n / page_bytes))
    (overwrite d.frames (frame_start (slot_of d f (n / page_bytes)) + n % page_bytes) (zeros (page_bytes - n % page_bytes)))
    d.frames)
    d.cache

-- the sizes of file f become the given ones
unfoldable pub with_sizes : ℕ → FileSizes → CacheState → CacheState
with_sizes f z s = with_floor (with_logical s f z.logical) f z.floor

unfoldable pub truncated : ℕ → ℕ → Device → Device
truncated f n d =
    clear_tail f n
    (device_of d.media d.frames
    (with_sizes f (truncated_sizes n (sizes_of d f)) (with_slots d.cache (map (free_where (pages_from f n)) d.cache.slots))))

unfoldable pub truncate : ℕ → ℕ → ℕ → Device → Result Device
truncate P f n d = admit (file_tests P d f (leb n (file_bytes P))) d (give (done 0) (truncated f n d))
