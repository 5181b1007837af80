-- `writeback::nonzero_from` meets its contract: from n to the end of the file lie as many bytes as the definition looks at.
use mathlib.Core.Path.{◌≡◌, ◌∙◌, ap}
use mathlib.Core.Bool.{not}
use Prim.Native.Nat.{ℕ, ◌+◌, ◌-◌}
use native.Mathlib.Omega.{arith}
use lib.Dec.{eqb}
use Rattle.memory.specs.Bytes.{part}
use Rattle.media.specs.Geometry.{pages_per_file, file_bytes, file_start}
use Rattle.scan.specs.Scan.{every}
use Rattle.device.specs.Mounting.{nonzero_from}
use Rattle.writeback.proofs.nonzero_from.Goals as goal

pub returns : goal.returns
unfolding nonzero_from file_start
returns c =
    let a = c.args in
    let from : ℕ = file_start pages_per_file a.file + a.n in
    let e : file_start pages_per_file a.file + file_bytes pages_per_file - from ≡ file_bytes pages_per_file - a.n = omega arith in
    λ stored. ap not (c.all_zero_by_pages.ensures ∙ ap (λ (k : ℕ). every (λ b. eqb b 0) (part a.media.now from k)) e)
