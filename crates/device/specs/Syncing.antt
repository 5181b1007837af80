-- Sync: document 01, "The calls".
use Rattle.std.specs.Prelude.{ℕ, zero, suc, Bool, true, not, List, [], ◌++◌, map, eqb, ltb, get_or}
use Rattle.memory.specs.Bytes.{part}
use Rattle.media.specs.Geometry.{page_bytes}
use Rattle.media.specs.Write.{MediaWrite, size_at}
use Rattle.media.specs.Write.MediaWrite.{page, size, trim}
use Rattle.device.specs.declared.CacheState.{CacheState}
use Rattle.device.specs.Device.{Device, frame_start, slot_of, is_cached, logical_at, floor_at, free_where, with_slots, with_floor}
use Rattle.device.specs.Admission.{Result, admit, file_tests}
use Rattle.device.specs.Plan.{write_if, under_budget}

-- TRIM to the floor, if that is below the stored size
unfoldable pub trim_writes : Device → ℕ → List MediaWrite
trim_writes d f = write_if (ltb (floor_at d f) (size_at d.media f)) (trim f (floor_at d f))

-- PAGE for page p, if it is cached
unfoldable pub page_write : Device → ℕ → ℕ → List MediaWrite
page_write d f p = write_if (is_cached d f p) (page f p (part d.frames (frame_start (slot_of d f p)) page_bytes))

-- ascending: n pages from page p on
unfoldable pub page_writes : Device → ℕ → ℕ → ℕ → List MediaWrite
page_writes d f zero p = []
page_writes d f (suc n) p = page_write d f p ++ page_writes d f n (suc p)

-- SIZE, if the logical size differs from the floor
unfoldable pub size_writes : Device → ℕ → List MediaWrite
size_writes d f = write_if (not (eqb (logical_at d f) (floor_at d f))) (size f (logical_at d f))

unfoldable pub sync_plan : ℕ → Device → ℕ → List MediaWrite
sync_plan P d f = trim_writes d f ++ (page_writes d f P 0 ++ size_writes d f)

-- the pages of file f
abbrev pub pages_of : ℕ → ℕ → ℕ → Bool
pages_of f g p = eqb g f

-- the state after a sync: the pages of file f are free, and its floor is its logical size
unfoldable pub synced_state : CacheState → ℕ → CacheState
synced_state s f = with_floor (with_slots s (map (free_where (pages_of f)) s.slots)) f (get_or s.logical f 0)

unfoldable pub sync : ℕ → ℕ → ℕ → Device → Result Device
sync P f budget d = admit (file_tests P d f true) d (under_budget P budget (sync_plan P d f) (synced_state d.cache f) d)
