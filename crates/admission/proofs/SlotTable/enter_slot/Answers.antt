-- `admission::SlotTable::enter_slot` meets its contract: by the three bytes of slot k.
use mathlib.Core.Path.{sym, ap, ◌∙◌}
use mathlib.Core.Bool.{false≢true}
use native.Mathlib.Omega.{arith}
use borrow.Author.Tests.{eqb-true, eqb-false}
use Rattle.state_bytes.specs.Encoding.{slot_word}
use Rattle.state_bytes.proofs.InPlace.{slot_read}
use Rattle.admission.proofs.Pass.{enter-used, enter-twice, enter-page, enter-file, enter-zero, enter-nonzero}
use Rattle.admission.proofs.SlotTable.enter_slot.Goals as goal
use Rattle.admission.proofs.SlotTable.enter_slot.Goals.{then-file-ge-FILES-via-then-file-ge-FILES, then-file-ge-FILES-via-else-file-ge-FILES+then-page-ge-PAGES_PER_FILE}

pub returns-then-state-at-ne1 : goal.returns-then-state-at-ne1
returns-then-state-at-ne1 c =
    let e = c.slot_word.ensures ∙ ap slot_word (slot_read _ (omega arith) _ c.requires.0) in (
      λ q. enter-zero _ _ _ c.requires.1 (omega arith) (sym e ∙ eqb-true _ _ q),
      λ q. enter-nonzero _ _ _ c.requires.1 (omega arith) c.if-state-at-ne1.true (λ h. eqb-false _ _ q (e ∙ h)),
    )

pub returns-then-file-ge-FILES : goal.returns-then-file-ge-FILES
returns-then-file-ge-FILES c = (
  λ q. absurd (false≢true q),
  λ q.
      elim c.then-file-ge-FILES.branch [
        | then-file-ge-FILES-via-then-file-ge-FILES w ↦ enter-file _ _ _ c.requires.1 (omega arith) (omega arith) (omega arith)
        | then-file-ge-FILES-via-else-file-ge-FILES+then-page-ge-PAGES_PER_FILE w ↦ enter-page _ _ _ c.requires.1 (omega arith) (omega arith) (omega arith) (omega arith)
      ],
)

pub returns : goal.returns
returns c =
    let e = c.from-seen.ensures in (
      λ q. rw (c.from-file.ensures, c.from-page.ensures) (enter-used _ _ _ c.requires.1 (omega arith) (omega arith) (omega arith) (omega arith) (rw (← c.from-file.ensures, ← c.from-page.ensures) (sym e ∙ eqb-true _ _ q))),
      λ q. enter-twice _ _ _ c.requires.1 (omega arith) (omega arith) (omega arith) (omega arith) (rw (← c.from-file.ensures, ← c.from-page.ensures) (λ h. eqb-false _ _ q (e ∙ h))),
    )
