-- `writing::put_bytes` meets its contract: the parts end as the pages leave them.
use mathlib.Core.Path.{sym}
use Rattle.writing.proofs.put_bytes.Goals as goal

pub returns : goal.returns
returns c =
    let same = c.put_pages.ensures.same_parts in
    λ stored. rw (c.frames-1.given.1 (sym same.1), c.state-1.given.1 (sym same.2)) (rw same.0 at (c.put_pages.ensures.put stored))
