-- `boxstore::boxstore_look` meets its contract: where the part lies, in a word.
use mathlib.Core.Path.{ap, ◌∙◌}
use native.Mathlib.Omega.{arith}
use Rattle.media.specs.Geometry.{pages_per_file}
use Rattle.media.specs.Write.{media_of}
use Rattle.state_bytes.specs.InPlace.{borrowed}
use Rattle.boxstore.specs.Interface.{span_word}
use Rattle.boxstore.proofs.Counts.{span_small}
use Rattle.boxstore.proofs.boxstore_look.Goals as goal

pub span_word-requires : goal.span_word-requires
span_word-requires c =
    let a = c.args in
    let w = span_small pages_per_file a.file a.position (borrowed (media_of a.media.now a.sizes.now) a.frames.now a.state.now) in
    rw c.look_span.ensures (omega (arith, w.0), omega (arith, w.1))

pub returns : goal.returns
returns c = c.span_word.ensures ∙ ap span_word c.look_span.ensures
