-- Cached pages are freed in the bytes of the state.
use Rattle.std.specs.Prelude.{ℕ, zero, suc, Bool, cond, ◌&&◌, List, get_or}
use Rattle.device.specs.declared.Slot.{Slot}
use Rattle.device.specs.Device.{free_slot, is_used}
use Rattle.device.specs.Truncating.{pages_from}
use Rattle.state_bytes.specs.Encoding.{decode, slot_set}

-- the slot holds a page of file f that begins at or past n
abbrev pub is_from : ℕ → ℕ → Slot → Bool
is_from f n s = is_used s && pages_from f n s.file s.page

-- of the first k slots those that hold such a page are free
unfoldable pub freed_slots : ℕ → ℕ → ℕ → List ℕ → List ℕ
freed_slots f n zero bytes = bytes
freed_slots f n (suc k) bytes =
    let before : List ℕ = freed_slots f n k bytes in
    cond (is_from f n (get_or (decode before).slots k free_slot)) (slot_set before k free_slot) before
