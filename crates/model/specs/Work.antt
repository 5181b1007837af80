-- The work of a call that is done, on any device: what it gives, and what it leaves. Demand 2 says it once more over the model files.
use Rattle.std.specs.Prelude.{ℕ, ◌+◌, ◌-◌, ◌/◌, ◌%◌, ◌≤◌, ◌<◌, min, max, ◌≡◌, ◌⊎◌, Bool, false, cond, ◌&&◌, List, [], eqb, ltb, leb, length, get_or, take, drop}
use Rattle.memory.specs.Bytes.{overwrite}
use Rattle.media.specs.Geometry.{files, page_bytes, file_bytes}
use Rattle.media.specs.Write.{Media, byte_at, size_at}
use Rattle.device.specs.declared.Slot.{Slot}
use Rattle.device.specs.Device.{Device, free_slot, is_free, free_where, is_cached, logical_at, floor_at, mounted_state}
use Rattle.device.specs.Current.{current_at, current_bytes}
use Rattle.device.specs.Writing.{has_room}
use Rattle.device.specs.Truncating.{pages_from}
use Rattle.device.specs.Syncing.{synced_state}
use Rattle.device.specs.Looking.{to_page_end}
use Rattle.model.specs.ModelFile.Entry.{written, truncated}
use Rattle.model.specs.CacheByLog.{cached_after}
use Rattle.model.specs.Run.{Call, Reply}
use Rattle.model.specs.Run.Call.{read, look, write, truncate, sync, mount}

-- ---- what is seen of a file: its logical size, its floor, its current bytes, and which of its pages are cached

pub record Seen : Type 0 where
  pub size : ℕ
  pub floor : ℕ
  pub byte : ℕ → ℕ
  pub cached : ℕ → Bool

abbrev pub seen : ℕ → Device → ℕ → Seen
seen P d f = record { size = logical_at d f; floor = floor_at d f; byte = current_at P d f; cached = is_cached d f }

-- the same is seen, at all positions that a file of P pages has
pub record Alike (P : ℕ) (x y : Seen) : Type 0 where
  pub size : x.size ≡ y.size
  pub floor : x.floor ≡ y.floor
  pub byte : (i : ℕ) → i < file_bytes P → x.byte i ≡ y.byte i
  pub cached : (p : ℕ) → x.cached p ≡ y.cached p

-- ---- what a call makes of it

-- the bytes stand from the position on
abbrev pub with_bytes : ℕ → List ℕ → Seen → Seen
with_bytes position bytes v = record {
  size = cond (eqb (length bytes) 0) v.size (max v.size (position + length bytes));
  floor = v.floor;
  byte = λ i. cond (leb position i && ltb i (position + length bytes)) (get_or bytes (i - position) 0) (v.byte i);
  cached = λ p. cached_after v.byte (written position bytes) p (v.cached p);
}

-- zeros from n on
abbrev pub cut_to : ℕ → Seen → Seen
cut_to n v = record {
  size = n;
  floor = min v.floor n;
  byte = λ i. cond (ltb i n) (v.byte i) 0;
  cached = λ p. cached_after v.byte (truncated n) p (v.cached p);
}

-- no page is cached, and zeros follow the file
abbrev pub synced : Seen → Seen
synced v = record { size = v.size; floor = v.size; byte = λ i. cond (ltb i v.size) (v.byte i) 0; cached = λ p. false }

-- a file as the media has it
abbrev pub as_stored : ℕ → Media → ℕ → Seen
as_stored P m f = synced (record { size = size_at m f; floor = size_at m f; byte = byte_at P m f; cached = λ p. false })

-- ---- what a call leaves

abbrev pub slot_at : Device → ℕ → Slot
slot_at d k = get_or d.cache.slots k free_slot

-- zeros follow the stored size of file f, as a mount leaves it
abbrev pub Clean : ℕ → Media → ℕ → Type 0
Clean P m f = (i : ℕ) → i < file_bytes P → size_at m f ≤ i → byte_at P m f i ≡ 0

-- what is seen of file f becomes h of it; of the others it stays
abbrev pub Changes : ℕ → ℕ → (Seen → Seen) → Device → Device → Type 0
Changes P f h d e = (g : ℕ) → g < files → Alike P (seen P e g) (cond (eqb g f) (h (seen P d g)) (seen P d g))

-- all bytes, or those before the start of a page for which there is no room
abbrev pub Stops : (ℕ → List ℕ → Bool) → ℕ → List ℕ → ℕ → Type 0
Stops room position bytes n =
    (n ≡ length bytes) ⊎ ((0 < n) × (n < length bytes) × ((position + n) % page_bytes ≡ 0) × (room (position + n) (drop n bytes) ≡ false))

-- ---- the work, on a device of P pages in a file whose persistent media is m, where the media writes of the call have this cost

abbrev pub Works : ℕ → Call → Device → Media → ℕ → Reply Device → Type 0
-- the count is what fits into the buffer before the file ends; past it the buffer stays as it was
Works P (read f position buffer) d m cost r =
    let n : ℕ = min (length buffer) (logical_at d f - position) in
    (r.answer.count ≡ n) × (r.output ≡ overwrite buffer 0 (current_bytes P d f position n))
-- the count is to the end of the page or of the file, the nearer. All of it is handed back where the page is cached, and otherwise what
-- lies below the floor
Works P (look f position) d m cost r =
    let shown : ℕ = to_page_end position (cond (is_cached d f (position / page_bytes)) (logical_at d f) (floor_at d f)) in
    (r.answer.count ≡ to_page_end position (logical_at d f)) × (r.output ≡ current_bytes P d f position shown)
-- the bytes that it counts stand there; pages take slots that were free
Works P (write f position bytes) d m cost r =
    let n : ℕ = r.answer.count in
    (r.output ≡ [])
    × Stops (has_room r.device f) position bytes n
    × Changes P f (with_bytes position (take n bytes)) d r.device
    × ((k : ℕ) → is_free (slot_at d k) ≡ false → slot_at r.device k ≡ slot_at d k)
-- a slot is freed exactly where its page begins at n or later
Works P (truncate f n) d m cost r =
    (r.output ≡ [])
    × (r.answer.count ≡ 0)
    × Changes P f (cut_to n) d r.device
    × ((k : ℕ) → slot_at r.device k ≡ free_where (pages_from f n) (slot_at d k))
-- the page frames are only read, the pages of the file are free, its floor and its stored size are its logical size. Where zeros
-- followed the stored size before, the media has the current bytes of the file
Works P (sync f budget) d m cost r =
    (r.output ≡ [])
    × (r.answer.count ≡ cost)
    × (r.device.frames ≡ d.frames)
    × (r.device.cache ≡ synced_state d.cache f)
    × (size_at r.device.media f ≡ logical_at d f)
    × (Clean P m f
    → Changes P f synced d r.device
    × ((i : ℕ) → i < file_bytes P → byte_at P r.device.media f i ≡ current_at P d f i))
-- no page is cached, each file is as the media has it, and zeros follow it there
Works P (mount budget) d m cost r =
    (r.output ≡ [])
    × (r.answer.count ≡ cost)
    × (r.device.frames ≡ d.frames)
    × (r.device.cache ≡ mounted_state m.sizes)
    × ((f : ℕ) → f < files → Alike P (seen P r.device f) (as_stored P m f) × Clean P r.device.media f)
