-- `reading::look_count` meets its contract: refused as `admit_at` says, or counted.
use mathlib.Core.Path.{◌∙◌}
use native.Mathlib.Omega.{arith}
use Rattle.std.proofs.lemmas.Result.{err_from_is_err_and}
use Rattle.device.proofs.Looking.{count-done}
use Rattle.state_bytes.proofs.OnBytes.{count-refused_on, count_on}
use Rattle.reading.proofs.Admitted.{tested}
use Rattle.reading.proofs.look_count.Goals as goal

pub returns-in_err-admit_at : goal.returns-in_err-admit_at
returns-in_err-admit_at c =
    let r = err_from_is_err_and c.from_residual.result c.from_residual.ensures.1 in
    rw (r.1, r.2) (count-refused_on _ _ _ _ _ c.in_err-admit_at.ensures.answer)

pub returns : goal.returns
returns c =
    let t = tested _ _ _ c.in_ok-admit_at.ensures.answer in
    count-done _ _ _ _ _ t.1 (omega arith) ∙ count_on _ _ _ _ t.0
