-- `session_run::feed` meets its contract: the bytes before the index were taken.
use Rattle.std.proofs.Common.{◌≡◌, length}
use Rattle.media.specs.Geometry.{pages_per_file}
use Rattle.device.specs.Moments.{device_at_entry}
use Rattle.session_run.proofs.Feeding.{FedTo}
use Rattle.session_run.proofs.feed.Given as goal

abbrev pub invariant-loop-byte : goal.invariant-loop-byte
invariant-loop-byte l = FedTo pages_per_file l.input (device_at_entry l.initial.media l.initial.sizes l.initial.frames l.initial.cache) l.initial.line l.initial.output l.byte-index
    (device_at_entry l.media l.sizes l.frames l.cache) l.line l.output l.put
    × (length l.output ≡ length l.initial.output)
