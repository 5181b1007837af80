-- `trip_writer::join_lines` meets its contract: the lines before both indices are joined, up to `end`.
use mathlib.Core.Path.{◌≡◌}
use Prim.Native.Nat.{◌+◌, ◌-◌}
use lib.ListN.{length}
use Rattle.trip_writer.specs.Joining.{Joining}
use Rattle.trip_writer.proofs.join_lines.Given as goal

abbrev pub invariant-loop-s : goal.invariant-loop-s
invariant-loop-s l = Joining l.fn.first l.fn.second l.output l.s × (length l.output ≡ length l.initial.output)

abbrev pub decreases-loop-s : goal.decreases-loop-s
decreases-loop-s l = length l.fn.first + length l.fn.second - (l.s.first.at + l.s.second.at)
