-- `writing::tail_slot` meets its contract: n begins a page, or falls inside one that stays.
use mathlib.Core.Path.{◌∙◌}
use Prim.Native.Nat.{◌/◌}
use native.Mathlib.Omega.{arith}
use Rattle.media.specs.Geometry.{page_bytes}
use Rattle.admission.proofs.Pass.{slot_for_lem}
use Rattle.writing.proofs.Tails.{tail_gone, tail_stays}
use Rattle.writing.proofs.tail_slot.Goals as goal

pub returns-then-n-eq0 : goal.returns-then-n-eq0
returns-then-n-eq0 c = λ s l e h. omega (arith, h, tail_gone c.args.file c.args.n s.slots l c.if-n-eq0.true)

pub returns : goal.returns
returns c =
    let a = c.args in
    λ s l e. let q = slot_for_lem s.slots _ a.file (a.n / page_bytes) e (omega arith) (omega arith) ∙ tail_stays a.file a.n s.slots c.if-n-eq0.false in
    rw q at c.slot_of.ensures
