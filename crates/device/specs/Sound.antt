-- Sound cache states: document 01, "The books". P is the number of pages in a file.
use Rattle.std.specs.Prelude.{ℕ, Bool, true, cond, ◌&&◌, List, [], ◌∷◌, eqb, ltb, leb, length, get_or}
use Rattle.media.specs.Geometry.{files, file_bytes}
use Rattle.device.specs.declared.Slot.{Slot}
use Rattle.device.specs.declared.CacheState.{CacheState}
use Rattle.device.specs.declared.FileSizes.{FileSizes}
use Rattle.scan.specs.Scan.{all_of, every, every_below, first_index}
use Rattle.device.specs.Device.{Device, slot_count, free_slot, is_free, is_used, holds}
use Rattle.device.specs.Sizes.{in_order}

-- the slot is used, and names a file and a page that there are; or it is free, and carries 0 and 0
unfoldable pub in_range : ℕ → Slot → Bool
in_range P s = cond (is_used s) (ltb s.file files && ltb s.page P) (is_free s && (eqb s.file 0 && eqb s.page 0))

-- slot k is free, or it is the first that holds its page: no page is held twice
unfoldable pub holds_alone : List Slot → ℕ → Bool
holds_alone slots k =
    let s : Slot = get_or slots k free_slot in
    cond (is_used s) (eqb (first_index (holds s.file s.page) slots) k) true

-- the sizes of file f, beside stored sizes
abbrev pub sizes_beside : List ℕ → CacheState → ℕ → FileSizes
sizes_beside stored s f = record { logical = get_or s.logical f 0; floor = get_or s.floor f 0; stored = get_or stored f 0 }

abbrev pub sizes_of : Device → ℕ → FileSizes
sizes_of d f = sizes_beside d.media.sizes d.cache f

-- what the down state has: every slot free, every size 0
unfoldable pub is_down : CacheState → Bool
is_down s = all_of (every is_free s.slots ∷ every (λ n. eqb n 0) s.logical ∷ every (λ n. eqb n 0) s.floor ∷ [])

-- its lists are as long as the arrays that hold them
unfoldable pub has_lengths : CacheState → Bool
has_lengths s = all_of (eqb (length s.slots) slot_count ∷ eqb (length s.logical) files ∷ eqb (length s.floor) files ∷ [])

unfoldable pub sound_tests : ℕ → List ℕ → CacheState → List Bool
sound_tests P stored s =
    leb s.mounted 1
    ∷ every (in_range P) s.slots
    ∷ every_below slot_count (holds_alone s.slots)
    ∷ every_below files (λ f. in_order (file_bytes P) (sizes_beside stored s f))
    ∷ cond (eqb s.mounted 0) (is_down s) true
    ∷ has_lengths s
    ∷ []

-- a cache state is sound beside these stored sizes
unfoldable pub is_sound : ℕ → List ℕ → CacheState → Bool
is_sound P stored s = all_of (sound_tests P stored s)
