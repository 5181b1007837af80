-- `media::write_page` meets its contract.
use mathlib.Core.Path.{◌≡◌, sym, ◌∙◌}
use native.Mathlib.Omega.{arith}
use lib.ListN.{length}
use Rattle.memory.proofs.Bytes.{overwrite-whole}
use Rattle.media.specs.Geometry.{page_bytes}
use Rattle.media.proofs.Direct.{lengths-shape, page-done}
use Rattle.media.proofs.write_page.Goals as goal

pub returns-then-page-ne-PAGE_BYTES : goal.returns-then-page-ne-PAGE_BYTES
returns-then-page-ne-PAGE_BYTES c = lengths-shape _ _ c.then-page-ne-PAGE_BYTES.either

pub returns : goal.returns
returns c =
    let a = c.args in
    let h : length a.page.now ≡ page_bytes = omega arith in
    let k : length a.bytes.now ≡ page_bytes = omega arith in
    let d = page-done a.page.now a.bytes.now h k in
    (d.0, c.copy.ensures ∙ overwrite-whole a.page.now a.bytes.now (k ∙ sym h) ∙ d.1)
