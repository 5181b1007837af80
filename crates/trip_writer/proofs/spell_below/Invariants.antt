-- `trip_writer::spell_below` meets its contract: the lines before the side are spelled out, up to `end`.
use Prim.Native.Nat.{◌-◌, ◌≤◌}
use lib.ListN.{length}
use Rattle.trip_writer.specs.Joining.{no_minute, Placed, Advanced}
use Rattle.trip_writer.proofs.spell_below.Given as goal

abbrev pub invariant-loop-side : goal.invariant-loop-side
invariant-loop-side l = Placed l.initial.side.list.now l.output l.side l.end
    × Advanced l.initial.side.list.now l.limit l.initial.output l.initial.side l.initial.end l.output l.side l.end
    × (l.limit ≤ no_minute)

abbrev pub decreases-loop-side : goal.decreases-loop-side
decreases-loop-side l = length l.initial.side.list.now - l.side.at
