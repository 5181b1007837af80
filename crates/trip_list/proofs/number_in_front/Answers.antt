use Rattle.std.proofs.Common.{sym, arith}
use Rattle.trip_list.proofs.Runs.{digits-first, digits-next, digits_end, digits_many, digits-read, nothing_read}
use Rattle.trip_list.proofs.number_in_front.Goals as goal

pub loop-i-init : goal.loop-i-init
loop-i-init c =
    let r = c.number-front.ensures in digits-first _ _ _ r.0 r.1

pub returns-then-not-is_ascii_digit : goal.returns-then-not-is_ascii_digit
returns-then-not-is_ascii_digit c =
    rw c.then_some.ensures (digits-read _ _ _ c.loop-i.invariant (omega arith) (sym c.if-not-is_ascii_digit.ensures.value) _ c.number_ends.ensures)

pub returns-then-i-eq10 : goal.returns-then-i-eq10
returns-then-i-eq10 c = nothing_read (digits_many _ _ _ c.loop-i.invariant (omega arith) (sym c.if-not-is_ascii_digit.ensures.value) (omega arith))

pub loop-i-preserved : goal.loop-i-preserved
loop-i-preserved c =
    let l = c.loop-i in
    rw c.from.ensures (digits-next _ _ _ l.invariant (omega arith) (sym c.if-not-is_ascii_digit.ensures.value) (omega (arith, l.invariant.few)))

pub returns : goal.returns
returns c = nothing_read (digits_end _ _ _ c.loop-i.invariant (omega arith))
