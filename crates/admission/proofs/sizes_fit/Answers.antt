use mathlib.Core.Path.{◌∙◌}
use mathlib.Core.Bool.{Bool, true, ◌&&◌}
use Prim.Native.Nat.{ℕ}
use borrow.Author.Rules.{rules}
use borrow.Author.Tests.{tests}
use lib.Dec.{leb}
use Rattle.std.proofs.lemmas.Iterator.{YieldsList-from_slice}
use Rattle.std.proofs.lemmas.Iterator.Consumers.{fold_from_yields_List}
use Rattle.media.specs.Geometry.{file_bytes, pages_per_file}
use Rattle.admission.proofs.Indices.{fold_every}
use Rattle.admission.proofs.sizes_fit.Goals as goal

abbrev fits : ℕ → Bool
fits n = leb n (file_bytes pages_per_file)

pub returns : goal.returns
returns c =
    fold_from_yields_List _ (λ (b : Bool) (n : ℕ). b && fits n) _ _ c.fold.ensures.ran (YieldsList-from_slice c.args.sizes.now c.iter.ensures.rest) (λ a x b q k. search (rules, tests))
    ∙ fold_every fits true c.args.sizes.now
