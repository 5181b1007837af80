-- `admission::files_in_order` meets its contract: whether all files below f pass.
use Rattle.media.specs.Geometry.{file_bytes, pages_per_file}
use Rattle.device.specs.Sizes.{in_order}
use Rattle.device.specs.Sound.{sizes_beside}
use Rattle.state_bytes.specs.Encoding.{decode}
use Rattle.scan.proofs.Loops.{FlaggedBelow}
use Rattle.admission.proofs.files_in_order.Given as goal

abbrev pub invariant-loop-f : goal.invariant-loop-f
invariant-loop-f l = FlaggedBelow (λ f. in_order (file_bytes pages_per_file) (sizes_beside l.sizes (decode l.state) f)) l.f l.ordered
