-- `session_line::numbers` meets its contract: a field is split off for each limit, and none is left.
use Rattle.std.proofs.Common.{rules, arith, sym, ◌∙◌, length-set, Some}
use Rattle.session_line.proofs.Grammar.{next_field, parsing_short, parsing_stop, parsing_next, parsing_end}
use Rattle.session_line.proofs.numbers.Goals as goal

pub returns-in_err-next : goal.returns-in_err-next
returns-in_err-next g c = c.from_residual.ensures ∙ parsing_short _ _ _ _ _ c.loop-i.invariant.0 (omega arith) (rw c.in_err-next.ensures.steps.0)

pub returns-in_err-values : goal.returns-in_err-values
returns-in_err-values g c =
    c.from_residual-in_err-values.ensures
    ∙ parsing_stop _ _ _ _ _ c.loop-i.invariant.0 (omega arith) _ _ (next_field _ c.loop-i.fields c.next.new.self (Some c.in_ok-next.field-0) c.in_ok-next.ensures.steps (λ x b q k. search rules)) (sym c.in_err-values.ensures)

pub loop-i-preserved : goal.loop-i-preserved
loop-i-preserved g c = (
  parsing_next _ _ _ _ _ c.loop-i.invariant.0 (omega arith) _ _ (next_field _ c.loop-i.fields c.next.new.self (Some c.in_ok-next.field-0) c.in_ok-next.ensures.steps (λ x b q k. search rules)) _ (sym c.in_ok-values.ensures) (omega arith),
  length-set _ _ _ ∙ c.loop-i.invariant.1,
)

pub returns : goal.returns
returns g c =
    c.then_some.ensures
    ∙ parsing_end _ _ _ _ _ c.loop-i.invariant.0 _ _ _ (next_field _ _ _ _ c.next-2.ensures.steps (λ x b q k. search rules)) c.is_none.ensures (omega arith) c.loop-i.invariant.1
