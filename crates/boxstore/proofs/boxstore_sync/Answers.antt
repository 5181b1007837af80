-- `boxstore::boxstore_sync` meets its contract: the call on the bytes, in a word.
use Prim.Native.Nat.{◌+◌}
use native.Mathlib.Omega.{arith}
use Rattle.media.specs.Geometry.{pages_per_file}
use Rattle.device.specs.Syncing.{sync}
use Rattle.boxstore.proofs.Counts.{counts, on_small, sync-small}
use Rattle.boxstore.proofs.Replies.{in_word_lem}
use Rattle.boxstore.proofs.boxstore_sync.Goals as goal

pub answer_word-requires : goal.answer_word-requires
answer_word-requires c = omega (arith, counts _ _ _ _ c.sync.ensures (on_small (sync pages_per_file _ _) (pages_per_file + 2) (sync-small pages_per_file _ _) _))

pub returns : goal.returns
returns c = in_word_lem _ _ _ _ c.sync.ensures c.answer_word.ensures
