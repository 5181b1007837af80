-- `writeback::trim_files` meets its contract: the files before this one were looked at; the others are still as they came.
use mathlib.Core.Path.{◌≡◌}
use Rattle.media.specs.Geometry.{pages_per_file}
use Rattle.media.specs.Write.{media_of}
use Rattle.writeback.proofs.Trimming.{Trimming}
use Rattle.writeback.proofs.trim_files.Given as goal

abbrev pub invariant-loop-file : goal.invariant-loop-file
invariant-loop-file l =
    Trimming pages_per_file l.paid (media_of l.initial.media l.initial.sizes) l.targets l.file l.budget.needed (media_of l.media l.sizes)
    × (l.budget.paid ≡ l.paid)
