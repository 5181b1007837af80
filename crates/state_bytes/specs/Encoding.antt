-- The cache state as bytes: its layout, written and read.
--
--   0              the up mark
--   1 + 3 k        slot k: used (1) or free (0), its file, its page
--   73 + 4 f       the logical size of file f, low byte first
--   105 + 4 f      the floor of file f, alike
use Rattle.std.specs.Prelude.{ℕ, zero, suc, ◌+◌, ◌*◌, ◌/◌, ◌%◌, Bool, cond, ◌&&◌, List, [], ◌∷◌, ◌++◌, eqb, ltb, leb, length, get_or}
use Rattle.memory.specs.Bytes.{overwrite}
use Rattle.scan.specs.Scan.{every_below}
use Rattle.media.specs.Geometry.{files}
use Rattle.device.specs.declared.Slot.{Slot}
use Rattle.device.specs.declared.CacheState.{CacheState}
use Rattle.device.specs.Device.{slot_count, down_state}

-- the number of bytes, and where the slots, the logical sizes and the floors begin
abbrev pub state_bytes : ℕ
state_bytes = 137

abbrev pub slots_start : ℕ
slots_start = 1

abbrev pub logical_start : ℕ
logical_start = 73

abbrev pub floor_start : ℕ
floor_start = 105

-- ---- written

abbrev pub slot_bytes : Slot → List ℕ
slot_bytes s = s.used ∷ s.file ∷ s.page ∷ []

-- a 32-bit number in four bytes, low byte first
abbrev pub number_bytes : ℕ → List ℕ
number_bytes n = n % 256 ∷ n / 256 % 256 ∷ n / 65536 % 256 ∷ n / 16777216 ∷ []

-- the bytes of each element, one after the other
abbrev pub concat_map : {A : Type 0} → (A → List ℕ) → List A → List ℕ
concat_map g [] = []
concat_map g (x ∷ xs) = g x ++ concat_map g xs

unfoldable pub encode : CacheState → List ℕ
encode s = s.mounted ∷ (concat_map slot_bytes s.slots ++ (concat_map number_bytes s.logical ++ concat_map number_bytes s.floor))

-- ---- read

abbrev pub slot_in : List ℕ → ℕ → Slot
slot_in bytes a = record { used = get_or bytes a 0; file = get_or bytes (a + 1) 0; page = get_or bytes (a + 2) 0 }

-- a slot as one number, low byte first
abbrev pub slot_word : Slot → ℕ
slot_word s = s.used + 256 * s.file + 65536 * s.page

abbrev pub number_in : List ℕ → ℕ → ℕ
number_in bytes a = get_or bytes a 0 + 256 * get_or bytes (a + 1) 0 + 65536 * get_or bytes (a + 2) 0 + 16777216 * get_or bytes (a + 3) 0

-- what g gives for each number below n, ascending
abbrev pub each : {A : Type 0} → ℕ → (ℕ → A) → List A
each zero g = []
each (suc n) g = each n g ++ (g n ∷ [])

unfoldable pub slots_in : List ℕ → List Slot
slots_in bytes = each slot_count (λ k. slot_in bytes (slots_start + 3 * k))

unfoldable pub sizes_in : List ℕ → ℕ → List ℕ
sizes_in bytes a = each files (λ f. number_in bytes (a + 4 * f))

-- bytes of another length say the down state
unfoldable pub decode : List ℕ → CacheState
decode bytes =
    cond (eqb (length bytes) state_bytes)
    (record { mounted = get_or bytes 0 0; slots = slots_in bytes; logical = sizes_in bytes logical_start; floor = sizes_in bytes floor_start })
    down_state

-- a buffer after the state was written to it; one of another length stays as it is
unfoldable pub encoded : CacheState → List ℕ → List ℕ
encoded s before = cond (eqb (length before) state_bytes) (encode s) before

-- ---- changed in place

-- n elements begin at a, each of the c bytes that g gives: the bytes with another element k. They stay where there is no such element,
-- or where they are of another length
unfoldable pub element_set : {A : Type 0} → (A → List ℕ) → ℕ → ℕ → ℕ → List ℕ → ℕ → A → List ℕ
element_set g a c n bytes k x = cond (eqb (length bytes) state_bytes && ltb k n) (overwrite bytes (a + c * k) (g x)) bytes

-- another slot k
abbrev pub slot_set : List ℕ → ℕ → Slot → List ℕ
slot_set = element_set slot_bytes slots_start 3 slot_count

-- another size of file f, among the sizes that begin at a
abbrev pub size_set : ℕ → List ℕ → ℕ → ℕ → List ℕ
size_set a = element_set number_bytes a 4 files

-- ---- free slots

-- n bytes from index a on are 0
unfoldable pub zeros_from : List ℕ → ℕ → ℕ → Bool
zeros_from bytes a n = every_below n (λ i. eqb (get_or bytes (a + i) 0) 0)

-- the bytes of n slots from slot k on, where there are as many, are 0
unfoldable pub slots_zero : List ℕ → ℕ → ℕ → Bool
slots_zero bytes k n = eqb (length bytes) state_bytes && (leb (k + n) slot_count && zeros_from bytes (slots_start + 3 * k) (3 * n))
