-- `cache::truncate` meets its contract: the bytes of the state, the call on them, and the state that they say.
use borrow.Author.Rules.{rules}
use Rattle.media.specs.Geometry.{pages_per_file}
use Rattle.media.specs.Write.{media_of}
use Rattle.device.specs.Truncating.{truncate}
use Rattle.state_bytes.proofs.OnBytes.{back_on, truncate-shaped}
use Rattle.cache.proofs.truncate.Goals as goal

pub returns : goal.returns
returns c =
    let a = c.args in
    let k = c.on_bytes.ensures.called in
    rw k.2
    (back_on (media_of a.media.now a.sizes.now) a.frames.now a.cache c.on_bytes.ensures.shaped (truncate pages_per_file a.file a.n) (λ d. truncate-shaped _ d _ _) _ _ _ k.0 (search rules))
