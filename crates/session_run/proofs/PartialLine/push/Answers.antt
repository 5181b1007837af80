-- `session_run::PartialLine::push` meets its contract: its test is the definition's.
use borrow.Author.Tests.{lt-ltb, le-ltb}
use Rattle.session_run.specs.Feeding.{kept_bytes, pushed}
use Rattle.session_run.proofs.PartialLine.push.Goals as goal

pub returns-then-self-lt-KEPT_BYTES : goal.returns-then-self-lt-KEPT_BYTES
unfolding pushed
returns-then-self-lt-KEPT_BYTES c = rw (lt-ltb _ kept_bytes c.if-self-lt-KEPT_BYTES.true)

pub returns-else-self-lt-KEPT_BYTES : goal.returns-else-self-lt-KEPT_BYTES
unfolding pushed
returns-else-self-lt-KEPT_BYTES c = rw (le-ltb _ kept_bytes c.if-self-lt-KEPT_BYTES.false)
