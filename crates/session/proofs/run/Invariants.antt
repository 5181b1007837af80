-- `session::run` goes on: what was read so far is printed.
use Rattle.media.specs.Geometry.{pages_per_file}
use Rattle.device.specs.Moments.{device_at_entry}
use Rattle.session_run.specs.Session.{start_device}
use Rattle.session_run.specs.Feeding.{no_line}
use Rattle.session.specs.Served.{GoesOn}
use Rattle.session.proofs.run.Given as goal

abbrev pub invariant-loop : goal.invariant-loop
invariant-loop g l =
    GoesOn (g.R.Read.remaining l.initial.reader) (g.R.Read.remaining l.reader) (g.W.Write.contents l.initial.writer) (g.W.Write.contents l.writer)
    (start_device pages_per_file) no_line (device_at_entry l.media l.sizes l.frames l.session.cache) l.session.line
