-- `cache::bytes_of` meets its contract.
use Rattle.state_bytes.specs.Encoding.{encoded}
use Rattle.cache.proofs.bytes_of.Goals as goal

pub returns : goal.returns
unfolding encoded
returns c = c.encode.ensures
