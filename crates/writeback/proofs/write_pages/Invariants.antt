-- `writeback::write_pages` meets its contract: the pages before this one are written.
use mathlib.Core.Path.{◌≡◌}
use mathlib.Core.List.{List}
use Prim.Native.Nat.{ℕ, ◌+◌, ◌≤◌}
use Rattle.media.specs.Geometry.{pages_per_file}
use Rattle.media.specs.Write.{media_of}
use Rattle.device.specs.Device.{Device}
use Rattle.device.specs.Plan.{Spent}
use Rattle.device.specs.Syncing.{page_writes}
use Rattle.admission.specs.Tables.{slot_table}
use Rattle.writeback.proofs.write_pages.Given as goal

abbrev pub invariant-loop-number : goal.invariant-loop-number
invariant-loop-number l = (l.budget.paid ≡ l.initial.budget.paid) × (l.budget.needed ≤ l.initial.budget.needed + l.number)
    × ((stored : List ℕ) (d : Device) → d.frames ≡ l.frames → l.table.slots ≡ slot_table pages_per_file d.cache.slots
    → Spent pages_per_file l.initial.budget.paid (media_of l.initial.media stored) l.initial.budget.needed l.budget.needed (page_writes d l.file l.number 0) (media_of l.media stored))
