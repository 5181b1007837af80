-- `trip_writer::Side::put_within` meets its contract: a line that ends within the longest list begins there.
use native.Mathlib.Omega.{arith}
use Rattle.trip_list.proofs.Stepping.{length-fits}
use Rattle.trip_writer.specs.Spelling.{spelled_line}
use Rattle.trip_writer.proofs.Pieces.{spelled-shorter}
use Rattle.trip_writer.proofs.Joining.{within-laid}
use Rattle.trip_writer.proofs.Side.put_within.Goals as goal

pub overflow_add-result : goal.overflow_add-result
overflow_add-result c = omega (arith, c.put_line.ensures.0, spelled-shorter _ _ _ c.requires.0, length-fits _ _ _ c.requires.0)

pub returns : goal.returns
returns c =
    let p = c.put_line.ensures in
    let m = c.min-start.ensures in
    (omega (arith, p.0), within-laid c.args.output.now _ (spelled_line c.args.self.list.now c.args.self.at) c.args.end _ _ m p.0 p.1)
