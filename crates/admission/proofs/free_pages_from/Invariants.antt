-- `admission::free_pages_from` meets its contract: of the slots before k those of such pages are free.
use mathlib.Core.Path.{◌≡◌}
use Prim.Native.Nat.{◌%◌, ◌≤◌}
use Rattle.device.specs.Device.{slot_count}
use Rattle.admission.specs.Freeing.{freed_slots}
use Rattle.admission.proofs.free_pages_from.Given as goal

abbrev pub invariant-loop-k : goal.invariant-loop-k
invariant-loop-k l = record { freed : l.state ≡ freed_slots l.file l.n l.k l.initial.state; within : l.k ≤ slot_count; by_eight : l.k % 8 ≡ 0 }
