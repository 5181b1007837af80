-- `cache::look_span` meets its contract: the bytes of the state say the state.
use mathlib.Core.Path.{◌∙◌}
use Rattle.state_bytes.proofs.OnBytes.{same_span}
use Rattle.cache.proofs.look_span.Goals as goal

pub returns : goal.returns
returns c = (rw c.bytes_of.ensures at c.look_span.ensures) ∙ same_span _ _ _ (search) _ _ _
