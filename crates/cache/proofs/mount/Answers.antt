-- `cache::mount` meets its contract: the bytes of the state, the call on them, and the state that they say.
use borrow.Author.Rules.{rules}
use Rattle.media.specs.Geometry.{pages_per_file}
use Rattle.media.specs.Write.{media_of}
use Rattle.device.specs.Mounting.{mount}
use Rattle.state_bytes.proofs.OnBytes.{back_on, mount-shaped}
use Rattle.cache.proofs.mount.Goals as goal

pub returns : goal.returns
returns c =
    let a = c.args in
    let k = c.on_bytes.ensures.called in
    λ frames. rw k.2
    (back_on (media_of a.media.now a.sizes.now) frames a.cache c.on_bytes.ensures.shaped (mount pages_per_file a.budget) (λ d. mount-shaped _ d _) _ _ _ k.0 (search rules))
