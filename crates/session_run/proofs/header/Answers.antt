-- `session_run::header` meets its contract: these are its bytes.
use Rattle.std.proofs.Common.{refl}
use Rattle.session_line.specs.Reply.{header}
use Rattle.session_run.proofs.header.Goals as goal

pub returns : goal.returns
unfolding header
returns c = refl
