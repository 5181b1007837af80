-- `boxstore::boxstore_look_count` meets its contract: the count of a look on the bytes, in a word.
use mathlib.Core.Path.{ap, ◌∙◌}
use native.Mathlib.Omega.{arith}
use Rattle.media.specs.Geometry.{page_bytes, pages_per_file}
use Rattle.boxstore.specs.Interface.{word_of}
use Rattle.boxstore.proofs.Counts.{fits, look-small}
use Rattle.boxstore.proofs.boxstore_look_count.Goals as goal

pub answer_word-requires : goal.answer_word-requires
answer_word-requires c = fits _ _ page_bytes c.look_count.ensures (look-small pages_per_file _ _ _) (omega arith)

pub returns : goal.returns
returns c = c.answer_word.ensures ∙ ap word_of c.look_count.ensures
