-- `boxstore::boxstore_read` meets its contract: the read on the bytes, in a word.
use native.Mathlib.Omega.{arith}
use Rattle.media.specs.Geometry.{pages_per_file}
use Rattle.boxstore.proofs.Counts.{counts, read_small}
use Rattle.boxstore.proofs.Replies.{in_word_lem}
use Rattle.boxstore.proofs.boxstore_read.Goals as goal

pub answer_word-requires : goal.answer_word-requires
answer_word-requires c = omega (arith, counts _ _ _ _ c.read.ensures (read_small pages_per_file _ _ _ _))

pub returns : goal.returns
returns c = in_word_lem _ _ _ _ c.read.ensures c.answer_word.ensures
