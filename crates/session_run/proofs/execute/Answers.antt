-- `session_run::execute` meets its contract: each case by the call that it makes.
use Rattle.std.proofs.Common.{refl, ap, ◌∙◌, Some, None}
use Rattle.memory.proofs.Bytes.{length_front, take-replicate}
use Rattle.session_run.specs.Session.{run}
use Rattle.session_run.proofs.Steps.{within_of, executed_plain, executed_read}
use Rattle.session_run.proofs.execute.Goals as goal

pub returns-in_default : goal.returns-in_default
unfolding run
returns-in_default c = executed_plain _ None c.in_default.is _ _ _ c.args.cache _ _ _ c.from.ensures _ refl refl

pub returns-in-Format : goal.returns-in-Format
unfolding run
returns-in-Format c = executed_plain _ _ (c.in-Some.is ∙ ap Some c.in-Format.is) _ _ _ c.args.cache _ _ _ c.into.ensures _ (c.format.ensures c.args.frames.now) refl

pub returns-in-Mount : goal.returns-in-Mount
unfolding run
returns-in-Mount c = executed_plain _ _ (c.in-Some.is ∙ ap Some c.in-Mount.is) _ _ _ c.args.cache _ _ _ c.into-in-Mount.ensures _ (c.mount.ensures c.args.frames.now) refl

pub returns-in-Truncate : goal.returns-in-Truncate
unfolding run
returns-in-Truncate c = executed_plain _ _ (c.in-Some.is ∙ ap Some c.in-Truncate.is) _ _ _ c.args.cache _ _ _ c.into-in-Truncate.ensures _ (cc) refl

pub returns-in-Sync : goal.returns-in-Sync
unfolding run
returns-in-Sync c = executed_plain _ _ (c.in-Some.is ∙ ap Some c.in-Sync.is) _ _ _ c.args.cache _ _ _ c.into-in-Sync.ensures _ (cc) refl

-- the request that a line asks for is within its limits
pub write_bytes-requires : goal.write_bytes-requires
write_bytes-requires c = within_of _ _ (c.in-Some.is ∙ ap Some c.in-Write.is) c.requires

pub returns-in-Write : goal.returns-in-Write
unfolding run
returns-in-Write c = executed_plain _ _ (c.in-Some.is ∙ ap Some c.in-Write.is) _ _ _ c.args.cache _ _ _ c.into-in-Write.ensures _ c.write_bytes.ensures refl

pub returns-in-Read : goal.returns-in-Read
unfolding run
returns-in-Read c =
    let told = c.in-Some.is ∙ ap Some c.in-Read.is in
    let few = within_of _ _ told c.requires in
    executed_read _ _ told _ _ _ c.args.cache _ _ _ c.in-Read.count _ c.read-outcome.ensures.1 few (rw (take-replicate c.in-Read.count 32 0 few) at c.read-outcome.ensures.0)
    (c.read-outcome.auto.buffer ∙ length_front _ _ few) refl
