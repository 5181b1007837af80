-- `state_bytes::put_slots` meets its contract: the first k slots are written.
use mathlib.Core.Path.{◌≡◌}
use lib.ListN.{take}
use Rattle.memory.specs.Bytes.{overwrite}
use Rattle.state_bytes.specs.Encoding.{slots_start, slot_bytes, concat_map}
use Rattle.state_bytes.proofs.put_slots.Given as goal

abbrev pub invariant-loop-k : goal.invariant-loop-k
invariant-loop-k l = l.state ≡ overwrite l.initial.state slots_start (concat_map slot_bytes (take l.k l.slots))
