-- `session_run::run_line` meets its contract: the call is made and its answer printed.
use Rattle.std.proofs.Common.{arith}
use borrow.Author.Tests.{ne_eqb}
use Rattle.answer.specs.Coded.{coded}
use Rattle.session_line.specs.Reply.{reply_line}
use Rattle.session_line.proofs.Reply.{print_count}
use Rattle.session_run.specs.Session.{run_line}
use Rattle.session_run.specs.Feeding.{run_into}
use Rattle.session_run.proofs.Steps.{text-fits, run_ends}
use Rattle.session_run.proofs.run_line.Goals as goal

pub returns-then-output-ne-REPLY_BYTES : goal.returns-then-output-ne-REPLY_BYTES
unfolding run_into
returns-then-output-ne-REPLY_BYTES c = (rw (ne_eqb _ _ c.if-output-ne-REPLY_BYTES.true), omega arith)

pub returns : goal.returns
unfolding run_line
returns c =
    let made = c.execute-call in
    let p = c.print.ensures in
    let f = text-fits made.result.outcome.answer made.result.buffer made.ensures.few (omega (arith, c.count.ensures)) in (
      rw (p.0, p.1, c.shown-shown.ensures, c.count.ensures) (run_ends _ _ _ _ _ _ _ (omega arith) (rw c.parse.ensures.0 at made.ensures.ran) f),
      rw p.0 (omega (arith, print_count (reply_line (coded made.result.outcome.answer) c.shown-shown.result.now) c.args.output.now)),
    )
