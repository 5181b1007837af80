-- `session::main` is safe: it starts with media all 0, and has room for what a block prints.
use Rattle.std.proofs.Common.{refl}
use Rattle.session_run.specs.Session.{start_device}
use Rattle.session.proofs.main.Goals as goal

pub print_session-requires : goal.print_session-requires
unfolding start_device
print_session-requires c = refl
