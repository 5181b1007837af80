-- `boxstore::boxstore_truncate` meets its contract: the call on the bytes, in a word.
use native.Mathlib.Omega.{arith}
use Rattle.media.specs.Geometry.{pages_per_file}
use Rattle.device.specs.Truncating.{truncate}
use Rattle.boxstore.proofs.Counts.{counts, on_small, truncate-small}
use Rattle.boxstore.proofs.Replies.{in_word_lem}
use Rattle.boxstore.proofs.boxstore_truncate.Goals as goal

pub answer_word-requires : goal.answer_word-requires
answer_word-requires c = omega (arith, counts _ _ _ _ c.truncate.ensures (on_small (truncate pages_per_file _ _) 0 (truncate-small pages_per_file _ _) _))

pub returns : goal.returns
returns c = in_word_lem _ _ _ _ c.truncate.ensures c.answer_word.ensures
