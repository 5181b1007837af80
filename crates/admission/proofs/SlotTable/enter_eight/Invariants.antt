-- `admission::SlotTable::enter_eight` meets its contract: the slots before i pass.
use Rattle.admission.specs.Tables.{Passed}
use Rattle.admission.proofs.SlotTable.enter_eight.Given as goal

abbrev pub invariant-loop-i : goal.invariant-loop-i
invariant-loop-i l = Passed l.state l.self.slots l.i
