-- `writeback::cut` meets its contract.
use mathlib.Core.Path.{refl, ◌∙◌}
use borrow.Author.Tests.{eq-eqb}
use Rattle.state_bytes.specs.Encoding.{encoded}
use Rattle.writeback.proofs.cut.Goals as goal

pub returns : goal.returns
unfolding encoded
returns c = (refl, c.encode.ensures ∙ rw (eq-eqb _ _ c.told-state, c.down_state.ensures))
