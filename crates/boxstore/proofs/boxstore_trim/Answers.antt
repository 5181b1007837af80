-- `boxstore::boxstore_trim` meets its contract: the media write's own.
use mathlib.Core.Path.{ap, ◌∙◌}
use native.Mathlib.Omega.{arith}
use Rattle.boxstore.specs.Interface.{word_of}
use Rattle.boxstore.proofs.Counts.{fits, trim-small}
use Rattle.boxstore.proofs.boxstore_trim.Goals as goal

pub answer_word-requires : goal.answer_word-requires
answer_word-requires c = fits _ _ 0 c.trim.ensures.0 (trim-small _ _ _ _) (omega arith)

pub returns : goal.returns
returns c = (c.answer_word.ensures ∙ ap word_of c.trim.ensures.0, c.trim.ensures.1)
