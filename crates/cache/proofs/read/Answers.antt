-- `cache::read` meets its contract: the bytes of the state say the state, which comes back.
use mathlib.Core.Path.{refl, ◌∙◌}
use Rattle.state_bytes.proofs.OnBytes.{same_read}
use Rattle.cache.proofs.read.Goals as goal

pub returns : goal.returns
returns c = ((rw c.bytes_of-state.ensures at c.read-answer.ensures) ∙ same_read _ _ _ (search) _ _ _ _, refl)
