-- The table of slots that admission fills in one pass over the bytes of the state: page p of file f is at place P × f + p, of P pages in
-- a file.
use Rattle.std.specs.Prelude.{ℕ, ◌+◌, ◌*◌, ◌/◌, ◌%◌, ◌<◌, ◌≡◌, Bool, true, cond, ◌&&◌, List, ltb, length, get_or, replicate}
use Rattle.media.specs.Geometry.{files, pages_per_file}
use Rattle.scan.specs.Scan.{every, every_below, first_index}
use Rattle.device.specs.declared.Slot.{Slot}
use Rattle.device.specs.Device.{slot_count, free_slot, holds}
use Rattle.device.specs.Sound.{in_range, holds_alone}
use Rattle.state_bytes.specs.Encoding.{each, slots_in}

-- no page is cached
unfoldable pub none_cached : List ℕ
none_cached = replicate (files * pages_per_file) slot_count

-- the slot of each page of each file, slot_count for one that is not cached
unfoldable pub slot_table : ℕ → List Slot → List ℕ
slot_table P slots = each (files * P) (λ i. first_index (holds (i / P) (i % P)) slots)

-- the slot that a table has for page p of file f; slot_count where there is no such page
unfoldable pub slot_for : ℕ → List ℕ → ℕ → ℕ → ℕ
slot_for P table f p = cond (ltb f files && ltb p P) (get_or table (P * f + p) 0) slot_count

-- ---- the pass

-- bytes whose slots are sound
unfoldable pub slots_pass : List ℕ → Bool
slots_pass bytes = every (in_range pages_per_file) (slots_in bytes) && every_below slot_count (holds_alone (slots_in bytes))

-- the slot of a page among the first k, or slot_count
abbrev pub slot_below : List Slot → ℕ → ℕ → ℕ → ℕ
slot_below slots k f p = cond (ltb (first_index (holds f p) slots) k) (first_index (holds f p) slots) slot_count

-- the first k slots pass, and the table has their pages
pub record Passed (bytes table : List ℕ) (k : ℕ) : Type 0 where
  pub named : (i : ℕ) → i < k → in_range pages_per_file (get_or (slots_in bytes) i free_slot) ≡ true
  pub alone : (i : ℕ) → i < k → holds_alone (slots_in bytes) i ≡ true
  pub slot_at : (f p : ℕ) → f < files → p < pages_per_file → get_or table (pages_per_file * f + p) 0 ≡ slot_below (slots_in bytes) k f p
  pub places : length table ≡ files * pages_per_file
