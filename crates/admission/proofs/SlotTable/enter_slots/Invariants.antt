-- `admission::SlotTable::enter_slots` meets its contract: the slots before k pass.
use mathlib.Core.Path.{◌≡◌}
use Prim.Native.Nat.{◌%◌, ◌≤◌}
use Rattle.device.specs.Device.{slot_count}
use Rattle.admission.specs.Tables.{Passed}
use Rattle.admission.proofs.SlotTable.enter_slots.Given as goal

abbrev pub invariant-loop-k : goal.invariant-loop-k
invariant-loop-k l = record { passed : Passed l.state l.self.slots l.k; within : l.k ≤ slot_count; by_eight : l.k % 8 ≡ 0 }
