-- `trip_list::number_in_front` meets its contract: i digits have this value.
use Rattle.trip_list.proofs.Runs.{Digits}
use Rattle.trip_list.proofs.number_in_front.Given as goal

abbrev pub invariant-loop-i : goal.invariant-loop-i
invariant-loop-i l = Digits l.text l.i l.value
