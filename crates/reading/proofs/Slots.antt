-- The slots of a sound state: none holds a page past the last.
use mathlib.Core.Path.{◌≡◌}
use mathlib.Core.Bool.{true}
use mathlib.Core.List.{List}
use Prim.Native.Nat.{ℕ, ◌≤◌, ◌<◌}
use native.Mathlib.Omega.{arith}
use lib.ListN.{length, get_or}
use borrow.Author.Tests.{lt-ltb, le-ltb}
use Rattle.memory.proofs.Cases.{split_lt}
use Rattle.media.specs.Geometry.{files, pages_per_file}
use Rattle.scan.specs.Scan.{first_index}
use Rattle.scan.proofs.Scan.{all_of_at, every_at, first_le, first_passes}
use Rattle.device.specs.declared.Slot.{Slot}
use Rattle.device.specs.declared.CacheState.{CacheState}
use Rattle.device.specs.Device.{slot_count, free_slot, holds}
use Rattle.device.specs.Sound.{in_range, is_sound, sound_tests}
use Rattle.device.proofs.Device.{holds_is}
use Rattle.admission.specs.Tables.{slot_table, slot_for}
use Rattle.admission.proofs.Pass.{range_is, slot_for_lem}

none_past : (stored : List ℕ) (c : CacheState) (f p : ℕ) → is_sound pages_per_file stored c ≡ true → length c.slots ≡ slot_count → pages_per_file ≤ p
    → slot_count ≡ first_index (holds f p) c.slots
unfolding is_sound sound_tests
none_past stored c f p e l h =
    let k : ℕ = first_index (holds f p) c.slots in
    split_lt k slot_count
    (λ lo.
    let s : Slot = get_or c.slots k free_slot in
    let x = holds_is f p s (first_passes (holds f p) c.slots free_slot (omega arith)) in
    let r : in_range pages_per_file s ≡ true = every_at (in_range pages_per_file) c.slots free_slot (all_of_at (sound_tests pages_per_file stored c) e 1) k (omega arith) in
    absurd (omega (arith, (range_is s r x.0).1, x.2)))
    (λ hi. omega (arith, first_le (holds f p) c.slots))

-- the table of a sound state has the slot of any page of a file
pub slot_sound : (stored table : List ℕ) (c : CacheState) (f p : ℕ) → table ≡ slot_table pages_per_file c.slots → is_sound pages_per_file stored c ≡ true → length c.slots ≡ slot_count → f < files
    → slot_for pages_per_file table f p ≡ first_index (holds f p) c.slots
unfolding slot_for
slot_sound stored table c f p e sound l h =
    split_lt p pages_per_file
    (λ lo. slot_for_lem c.slots table f p e h lo)
    (λ hi. rw (lt-ltb f files h, le-ltb p pages_per_file hi) (none_past stored c f p sound l hi))
