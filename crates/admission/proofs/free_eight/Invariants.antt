-- `admission::free_eight` meets its contract: of the slots before i those of such pages are free.
use mathlib.Core.Path.{◌≡◌}
use mathlib.Core.List.{List}
use Prim.Native.Nat.{ℕ}
use lib.ListN.{length}
use Rattle.admission.specs.Freeing.{freed_slots}
use Rattle.admission.proofs.free_eight.Given as goal

abbrev pub invariant-loop-i : goal.invariant-loop-i
invariant-loop-i l = ((bytes : List ℕ) → l.initial.state ≡ freed_slots l.file l.n l.k bytes → l.state ≡ freed_slots l.file l.n l.i bytes) × (length l.state ≡ length l.initial.state)
