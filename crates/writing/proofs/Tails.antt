-- The page that a truncate falls inside: cached after it in the slot that it had, or freed where it begins at n.
use mathlib.Core.Path.{◌≡◌, refl, sym, ◌∙◌}
use mathlib.Core.Logic.{◌≢◌}
use mathlib.Core.List.{List, [], map}
use Prim.Native.Nat.{ℕ, ◌*◌, ◌/◌, ◌%◌, ◌<◌, ◌≤◌}
use native.Mathlib.Omega.{arith}
use lib.ListN.{length, get_or}
use borrow.Author.Tests.{eq-eqb, le-leb, lt-leb}
use Rattle.media.specs.Geometry.{page_bytes}
use Rattle.scan.specs.Scan.{first_index}
use Rattle.device.specs.declared.Slot.{Slot}
use Rattle.device.specs.declared.CacheState.{CacheState}
use Rattle.device.specs.declared.FileSizes.{FileSizes}
use Rattle.device.specs.Device.{slot_count, holds, free_where, with_slots, with_logical, with_floor}
use Rattle.device.specs.Sizes.{truncated_sizes}
use Rattle.device.specs.Sound.{sizes_beside}
use Rattle.device.specs.Truncating.{pages_from, with_sizes}
use Rattle.device.proofs.Device.{slot_gone, slot_stays}

module _ (f n : ℕ) (slots : List Slot) where
  abbrev after : ℕ
  after = first_index (holds f (n / page_bytes)) (map (free_where (pages_from f n)) slots)

  pub tail_gone : length slots ≡ slot_count → n % page_bytes ≡ 0 → slot_count ≡ after
  tail_gone l e =
      let h : n ≤ page_bytes * (n / page_bytes) = omega arith in
      sym (slot_gone (pages_from f n) f (n / page_bytes) slots (rw (eq-eqb f f refl, le-leb n (page_bytes * (n / page_bytes)) h)) ∙ l)

  pub tail_stays : n % page_bytes ≢ 0 → first_index (holds f (n / page_bytes)) slots ≡ after
  tail_stays ne =
      let h : page_bytes * (n / page_bytes) < n = omega arith in
      sym (slot_stays (pages_from f n) f (n / page_bytes) slots (rw (eq-eqb f f refl, lt-leb n (page_bytes * (n / page_bytes)) h)))

-- slots, then sizes: c was the floor
pub sizes-set : (s x y z : CacheState) (slots : List Slot) (f n l c : ℕ) (a : FileSizes) → c ≡ get_or s.floor f 0
    → a ≡ truncated_sizes n (record { logical = l; floor = c; stored = 0 }) → x ≡ with_slots s slots → y ≡ with_logical x f a.logical
    → z ≡ with_floor y f a.floor → z ≡ with_sizes f (truncated_sizes n (sizes_beside [] s f)) (with_slots s slots)
unfolding with_sizes
sizes-set s x y z slots f n l c a ec ea ex ey ez = rw (ez, ey, ex, ea, ec)
