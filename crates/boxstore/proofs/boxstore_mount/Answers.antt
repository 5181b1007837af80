-- `boxstore::boxstore_mount` meets its contract: the call on the bytes, in a word.
use mathlib.Core.List.{[]}
use native.Mathlib.Omega.{arith}
use Rattle.media.specs.Geometry.{files, pages_per_file}
use Rattle.device.specs.Mounting.{mount}
use Rattle.boxstore.proofs.Counts.{counts, on_small, mount-small}
use Rattle.boxstore.proofs.Replies.{in_word_lem}
use Rattle.boxstore.proofs.boxstore_mount.Goals as goal

pub answer_word-requires : goal.answer_word-requires
answer_word-requires c = omega (arith, counts _ _ _ _ (c.mount.ensures []) (on_small (mount pages_per_file _) files (mount-small pages_per_file _) _))

pub returns : goal.returns
returns c = λ frames. in_word_lem _ _ _ _ (c.mount.ensures frames) c.answer_word.ensures
