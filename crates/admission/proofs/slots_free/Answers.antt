use mathlib.Core.Path.{refl, ◌∙◌}
use borrow.Author.Rules.{rules}
use borrow.Author.Tests.{tests}
use lib.ListN.{get_or}
use Rattle.std.proofs.lemmas.Iterator.{YieldsList-from_range}
use Rattle.std.proofs.lemmas.Iterator.Search.{all_from_yields_List}
use Rattle.device.specs.Device.{is_free, free_slot, slot_count}
use Rattle.state_bytes.specs.Encoding.{decode}
use Rattle.state_bytes.proofs.InPlace.{shaped}
use Rattle.admission.proofs.Indices.{all_indices}
use Rattle.admission.proofs.slots_free.Goals as goal

pub returns : goal.returns
returns c =
    let slots = (decode c.args.state.now).slots in
    all_from_yields_List (λ k. is_free (get_or slots k free_slot)) _ _ _ c.all.ensures.ran (YieldsList-from_range 0 slot_count slot_count refl refl) (λ x b q k. search (rules, tests))
    ∙ all_indices is_free free_slot slots slot_count (shaped _).slots
