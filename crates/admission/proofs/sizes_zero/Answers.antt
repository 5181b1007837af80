use mathlib.Core.Path.{refl, ◌∙◌}
use mathlib.Core.Bool.{Bool, ◌&&◌}
use Prim.Native.Nat.{ℕ}
use borrow.Author.Rules.{rules}
use borrow.Author.Tests.{tests}
use lib.Dec.{eqb}
use lib.ListN.{get_or}
use Rattle.std.specs.List.{range_with_len}
use Rattle.std.proofs.lemmas.Iterator.{YieldsList-from_range}
use Rattle.std.proofs.lemmas.Iterator.Search.{all_from_yields_List}
use Rattle.media.specs.Geometry.{files}
use Rattle.state_bytes.specs.Encoding.{decode}
use Rattle.state_bytes.proofs.InPlace.{shaped}
use Rattle.admission.proofs.Indices.{all_both, all_indices}
use Rattle.admission.proofs.sizes_zero.Goals as goal

abbrev is_zero : ℕ → Bool
is_zero n = eqb n 0

pub returns : goal.returns
returns c =
    let s = decode c.args.state.now in
    all_from_yields_List (λ f. is_zero (get_or s.logical f 0) && is_zero (get_or s.floor f 0)) _ _ _ c.all.ensures.ran (YieldsList-from_range 0 files files refl refl) (λ x b q k. search (rules, tests))
    ∙ all_both (λ f. is_zero (get_or s.logical f 0)) (λ f. is_zero (get_or s.floor f 0)) (range_with_len 0 files)
    ∙ rw (all_indices is_zero 0 s.logical files (shaped _).logical, all_indices is_zero 0 s.floor files (shaped _).floor)
