-- `trip_list::read` meets its contract: so many lines stand before index `at`, with the trip at the place if it is among them.
use Rattle.std.proofs.Common.{◌-◌, ◌≤◌, length}
use Rattle.trip_list.specs.List.{greatest_list}
use Rattle.trip_list.proofs.Walking.{Walked, Held}
use Rattle.trip_list.proofs.read.Given as goal

abbrev pub invariant-loop-at : goal.invariant-loop-at
invariant-loop-at l = record { walked : Walked l.list l.at l.least l.found.count; held : Held l.list l.place l.found.count l.found.trip; short : length l.list ≤ greatest_list }

abbrev pub decreases-loop-at : goal.decreases-loop-at
decreases-loop-at l = length l.list - l.at
