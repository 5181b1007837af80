-- `boxstore::boxstore_write_size` meets its contract: the media write's own.
use mathlib.Core.Path.{ap, ◌∙◌}
use native.Mathlib.Omega.{arith}
use Rattle.boxstore.specs.Interface.{word_of}
use Rattle.boxstore.proofs.Counts.{fits, size_small}
use Rattle.boxstore.proofs.boxstore_write_size.Goals as goal

pub answer_word-requires : goal.answer_word-requires
answer_word-requires c = fits _ _ 0 c.write_size.ensures.0 (size_small _ _ _ _) (omega arith)

pub returns : goal.returns
returns c = (c.answer_word.ensures ∙ ap word_of c.write_size.ensures.0, c.write_size.ensures.1)
