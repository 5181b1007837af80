-- `writing::Parts::put_pages` meets its contract: what is still to be put from here gives what was to be put at the start.
use mathlib.Core.List.{List}
use Prim.Native.Nat.{ℕ, ◌+◌, ◌-◌, ◌≤◌}
use lib.ListN.{length}
use Rattle.media.specs.Geometry.{pages_per_file}
use Rattle.state_bytes.specs.Encoding.{decode}
use Rattle.writing.specs.Parts.{device_beside, SameParts}
use Rattle.writing.proofs.Puts.{Told, Rest}
use Rattle.writing.proofs.Parts.put_pages.Given as goal

abbrev pub invariant-loop-from : goal.invariant-loop-from
invariant-loop-from l =
    record {
      rest : (stored : List ℕ) → Rest pages_per_file l.file l.position l.bytes (device_beside stored l.initial.self) l.from (device_beside stored l.self);
      within : l.from ≤ length l.bytes;
      told : Told l.table.slots l.file (l.position + l.from) (length l.bytes - l.from) (decode l.self.state.now).slots;
      same_parts : SameParts l.initial.self l.self;
    }

abbrev pub decreases-loop-from : goal.decreases-loop-from
decreases-loop-from l = length l.bytes - l.from
