-- `session::print_session` meets its contract: the header stands before what the input prints.
use Rattle.std.proofs.Common.{subst, Result, Ok, Err}
use Rattle.std.specs.Result.{OnOk}
use Rattle.std.specs.Io.KnownBytes.{Appends}
use Rattle.session.proofs.Served.{printed_whole}
use Rattle.session.proofs.print_session.Goals as goal

on_ok : {T E : Type 0} (r : Result T E) (P Q : Type 0) → (P → Q) → OnOk r P → OnOk r Q
on_ok (Ok x) P Q f p = f p
on_ok (Err e) P Q f p = p

pub returns : goal.returns
returns g c =
    on_ok c.run.result _ _ (λ replies. printed_whole _ _ _ _ (subst (Appends _ _) c.header.ensures c.in_ok-write_out.ensures) replies) c.run.ensures
