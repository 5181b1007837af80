-- `session_run::PartialLine::as_slice` meets its contract: no more is kept than there is room for.
use Rattle.session_run.proofs.Steps.{kept_line}
use Rattle.std.proofs.Common.{rules}
use Rattle.session_run.proofs.PartialLine.as_slice.Goals as goal

pub returns : goal.returns
returns c = kept_line c.args.self.now c.min.result (search rules) (search rules)
