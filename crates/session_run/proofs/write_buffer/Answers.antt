-- `session_run::write_buffer` meets its contract: they are all that byte.
use Rattle.std.proofs.Common.{refl}
use Rattle.session_run.specs.Steps.{write_buffer}
use Rattle.session_run.proofs.write_buffer.Goals as goal

pub returns : goal.returns
unfolding write_buffer
returns c = refl
