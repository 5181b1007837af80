-- `media::write_size_in` meets its contract: what `admit` answers decides.
use Rattle.std.proofs.lemmas.Result.{err_from_is_err_and}
use Rattle.media.proofs.Direct.{size_accepted, size_applied, size-unchanged}
use Rattle.media.proofs.write_size_in.Goals as goal

pub returns-in_err-admit : goal.returns-in_err-admit
returns-in_err-admit c =
    let e = c.in_err-admit.ensures.answer in
    let p = err_from_is_err_and c.from_residual.result c.from_residual.ensures.1 in
    rw (p.1, p.2) (e, size-unchanged _ _ _ _ c.in_err-admit.field-0.0 e)

pub returns : goal.returns
returns c =
    let ok = c.in_ok-admit.ensures.tested in
    (size_accepted _ _ _ _ ok, size_applied _ _ _ _ ok)
