-- `state_bytes::set_size` meets its contract.
use mathlib.Core.Path.{sym, ◌∙◌}
use Rattle.media.specs.Geometry.{files}
use Rattle.state_bytes.specs.Encoding.{number_bytes}
use Rattle.state_bytes.proofs.InPlace.{set_here, set_past, set_other}
use Rattle.state_bytes.proofs.set_size.Goals as goal

pub returns-then-file-lt-FILES : goal.returns-then-file-lt-FILES
returns-then-file-lt-FILES c =
    let a = c.args in
    let w = c.in-Some.ensures.cases in
    c.put.ensures ∙ rw (w.same, c.number_bytes.ensures) (set_here number_bytes a.at 4 files a.state.now a.file a.n w.long c.if-file-lt-FILES.true)

pub returns-else-file-lt-FILES : goal.returns-else-file-lt-FILES
returns-else-file-lt-FILES c =
    let a = c.args in
    let w = c.in-Some.ensures.cases in
    w.same ∙ set_past number_bytes a.at 4 files a.state.now a.file a.n w.long c.if-file-lt-FILES.false

pub returns-in_default : goal.returns-in_default
returns-in_default c =
    let a = c.args in sym (set_other number_bytes a.at 4 files a.state.now a.file a.n c.in_default.ensures.cases)
