-- The current bytes of a file (document 01: its live bytes).
use Rattle.std.specs.Prelude.{ℕ, zero, suc, ◌+◌, ◌/◌, ◌%◌, cond, List, [], ◌∷◌, ltb, get_or}
use Rattle.media.specs.Geometry.{page_bytes}
use Rattle.media.specs.Write.{byte_at}
use Rattle.device.specs.Device.{Device, frame_start, slot_of, is_cached, floor_at}

-- byte r of the page frame of slot k
abbrev pub frame_byte : Device → ℕ → ℕ → ℕ
frame_byte d k r = get_or d.frames (frame_start k + r) 0

-- byte i of file f: in its page frame where its page is cached; otherwise on the media below the floor, and 0 from there on
unfoldable pub current_at : ℕ → Device → ℕ → ℕ → ℕ
current_at P d f i =
    cond (is_cached d f (i / page_bytes)) (frame_byte d (slot_of d f (i / page_bytes)) (i % page_bytes))
    (cond (ltb i (floor_at d f)) (byte_at P d.media f i) 0)

-- the n current bytes of file f from position i on
abbrev pub current_bytes : ℕ → Device → ℕ → ℕ → ℕ → List ℕ
current_bytes P d f i zero = []
current_bytes P d f i (suc n) = current_at P d f i ∷ current_bytes P d f (suc i) n
