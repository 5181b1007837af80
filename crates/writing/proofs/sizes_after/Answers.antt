-- `writing::sizes_after` meets its contract: what `sizes_answer` answers decides.
use mathlib.Core.Path.{◌∙◌}
use native.Mathlib.Omega.{arith}
use Rattle.device.proofs.Sizes.{rule_refused, rule_fits, rule_done}
use Rattle.writing.proofs.sizes_after.Goals as goal

pub overflow_cast-n : goal.overflow_cast-n
overflow_cast-n c = omega (arith, rule_fits _ _ _ _ c.sizes_answer.ensures _ c.in-Ok.is)

pub returns-in-Err : goal.returns-in-Err
returns-in-Err c = rule_refused _ _ _ _ c.sizes_answer.ensures _ c.in-Err.is

pub returns-in-Ok : goal.returns-in-Ok
returns-in-Ok c = c.truncated_sizes.ensures ∙ rule_done _ _ _ _ c.sizes_answer.ensures _ c.in-Ok.is
