-- The device: the media, the page frames beside it, and the cache state. Document 01: the box, the held bytes, the books.
use Rattle.std.specs.Prelude.{ℕ, ◌*◌, Bool, cond, ◌&&◌, List, eqb, ltb, get_or, set, replicate}
use Rattle.memory.specs.Bytes.{zeros}
use Rattle.media.specs.Geometry.{files, page_bytes}
use Rattle.media.specs.Write.{Media}
use Rattle.device.specs.declared.Slot.{Slot}
use Rattle.device.specs.declared.CacheState.{CacheState}
use Rattle.scan.specs.Scan.{first_index}

pub record Device : Type 0 where
  pub media : Media
  pub frames : List ℕ
  pub cache : CacheState

abbrev pub device_of : Media → List ℕ → CacheState → Device
device_of media frames cache = record { media = media; frames = frames; cache = cache }

-- the number of slots, and of the bytes of all page frames
abbrev pub slot_count : ℕ
slot_count = 24

abbrev pub frames_bytes : ℕ
frames_bytes = slot_count * page_bytes

-- where the page frame of slot k starts
abbrev pub frame_start : ℕ → ℕ
frame_start k = page_bytes * k

-- ---- slots

abbrev pub free_slot : Slot
free_slot = record { used = 0; file = 0; page = 0 }

-- the slot of page p of file f
abbrev pub used_slot : ℕ → ℕ → Slot
used_slot f p = record { used = 1; file = f; page = p }

abbrev pub is_free : Slot → Bool
is_free s = eqb s.used 0

abbrev pub is_used : Slot → Bool
is_used s = eqb s.used 1

-- the slot holds page p of file f
abbrev pub holds : ℕ → ℕ → Slot → Bool
holds f p s = is_used s && (eqb s.file f && eqb s.page p)

-- the slot that holds page p of file f, or slot_count where none does
abbrev pub slot_of : Device → ℕ → ℕ → ℕ
slot_of d f p = first_index (holds f p) d.cache.slots

-- page p of file f is cached (held)
abbrev pub is_cached : Device → ℕ → ℕ → Bool
is_cached d f p = ltb (slot_of d f p) slot_count

-- the slot that a page takes when it becomes cached: the first that is free, or slot_count where none is
abbrev pub first_free : Device → ℕ
first_free d = first_index is_free d.cache.slots

-- a slot, freed where its page is among those
unfoldable pub free_where : (ℕ → ℕ → Bool) → Slot → Slot
free_where among s = cond (is_used s && among s.file s.page) free_slot s

-- ---- the cache state

abbrev pub logical_at : Device → ℕ → ℕ
logical_at d f = get_or d.cache.logical f 0

abbrev pub floor_at : Device → ℕ → ℕ
floor_at d f = get_or d.cache.floor f 0

-- the state with other slots, or with another logical size or floor of file f
abbrev pub with_slots : CacheState → List Slot → CacheState
with_slots s slots = record { mounted = s.mounted; slots = slots; logical = s.logical; floor = s.floor }

abbrev pub with_logical : CacheState → ℕ → ℕ → CacheState
with_logical s f n = record { mounted = s.mounted; slots = s.slots; logical = set s.logical f n; floor = s.floor }

abbrev pub with_floor : CacheState → ℕ → ℕ → CacheState
with_floor s f n = record { mounted = s.mounted; slots = s.slots; logical = s.logical; floor = set s.floor f n }

-- no page is cached
abbrev pub no_slots : List Slot
no_slots = replicate slot_count free_slot

-- the state while down (the down books)
abbrev pub down_state : CacheState
down_state = record { mounted = 0; slots = no_slots; logical = zeros files; floor = zeros files }

-- the state right after a mount that found these stored sizes
abbrev pub mounted_state : List ℕ → CacheState
mounted_state sizes = record { mounted = 1; slots = no_slots; logical = sizes; floor = sizes }
