-- `boxstore::boxstore_format` meets its contract: the call on the bytes, in a word.
use mathlib.Core.List.{[]}
use native.Mathlib.Omega.{arith}
use Rattle.media.specs.Geometry.{files, pages_per_file}
use Rattle.device.specs.Mounting.{format}
use Rattle.boxstore.proofs.Counts.{counts, on_small, format_small}
use Rattle.boxstore.proofs.Replies.{in_word_lem}
use Rattle.boxstore.proofs.boxstore_format.Goals as goal

pub answer_word-requires : goal.answer_word-requires
answer_word-requires c = omega (arith, counts _ _ _ _ (c.format.ensures []) (on_small (format pages_per_file _) files (format_small pages_per_file _) _))

pub returns : goal.returns
returns c = λ frames. in_word_lem _ _ _ _ (c.format.ensures frames) c.answer_word.ensures
