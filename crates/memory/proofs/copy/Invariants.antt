-- `memory::copy` meets its contract: after each block the first i bytes of `src` are laid over the front.
use mathlib.Core.Path.{◌≡◌}
use Prim.Native.Nat.{◌≤◌, ◌-◌, min}
use lib.ListN.{length, take}
use Rattle.memory.specs.Bytes.{overwrite}
use Rattle.memory.proofs.copy.Given as goal

abbrev pub invariant-loop-i : goal.invariant-loop-i
invariant-loop-i l = (l.dst ≡ overwrite l.initial.dst 0 (take l.i l.src)) × (length l.dst ≡ length l.initial.dst) × (l.i ≤ l.n) × (l.n ≡ min (length l.initial.dst) (length l.src))

abbrev pub decreases-loop-i : goal.decreases-loop-i
decreases-loop-i l = l.n - l.i
