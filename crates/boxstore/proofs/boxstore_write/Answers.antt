-- `boxstore::boxstore_write` meets its contract: the call on the bytes, in a word.
use native.Mathlib.Omega.{arith}
use Rattle.media.specs.Geometry.{file_bytes, pages_per_file}
use Rattle.device.specs.Writing.{write}
use Rattle.boxstore.proofs.Counts.{counts, on_small, write-small}
use Rattle.boxstore.proofs.Replies.{in_word_lem}
use Rattle.boxstore.proofs.boxstore_write.Goals as goal

pub answer_word-requires : goal.answer_word-requires
answer_word-requires c = omega (arith, counts _ _ _ _ c.write.ensures (on_small (write pages_per_file _ _ _) (file_bytes pages_per_file) (write-small pages_per_file _ _ _) _))

pub returns : goal.returns
returns c = in_word_lem _ _ _ _ c.write.ensures c.answer_word.ensures
