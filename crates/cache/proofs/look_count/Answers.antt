-- `cache::look_count` meets its contract: the bytes of the state say the state, which comes back.
use mathlib.Core.Path.{refl, ◌∙◌}
use Rattle.state_bytes.proofs.OnBytes.{same_count}
use Rattle.cache.proofs.look_count.Goals as goal

pub returns : goal.returns
returns c = ((rw c.bytes_of-state.ensures at c.look_count-answer.ensures) ∙ same_count _ _ _ (search) _ _ _, refl)
