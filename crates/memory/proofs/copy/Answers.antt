use mathlib.Core.Path.{sym, ap, ◌∙◌}
use Prim.Native.Nat.{◌+◌}
use native.Mathlib.Omega.{arith}
use lib.ListN.{length, take}
use borrow.Author.Rules.{rules}
use Rattle.memory.proofs.Bytes.{length-overwrite, overwrite-none, overwrite-fits, put_next}
use Rattle.memory.proofs.copy.Goals as goal

pub loop-i-init : goal.loop-i-init
loop-i-init c = (sym (overwrite-none _ 0), search rules, search rules, search rules)

pub loop-i-preserved : goal.loop-i-preserved
loop-i-preserved c =
    let a = c.args in
    let i = c.loop-i.i in
    let m = c.min-step.result in
    let next =
    put_next i (length c.loop-i.dst) (length a.src.now) m a.dst.now a.src.now c.loop-i.dst c.copy_block.new.dst c.loop-i.invariant.0
    c.copy_block.ensures (omega arith) (omega arith) (omega arith) (omega arith) (omega arith) in
    (next, ap length next ∙ length-overwrite a.dst.now 0 (take (i + m) a.src.now), search rules, search rules)

pub returns : goal.returns
returns c =
    let a = c.args in
    c.loop-i.invariant.0 ∙ overwrite-fits a.dst.now a.src.now c.loop-i.i (omega arith)
