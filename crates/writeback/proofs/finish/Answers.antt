-- `writeback::finish` meets its contract: by cases of the budget.
use mathlib.Core.Path.{◌≡◌, ◌∙◌}
use native.Mathlib.Omega.{arith}
use borrow.Author.Tests.{eq-eqb, lt-ltb, le-ltb}
use Rattle.state_bytes.specs.Encoding.{encode, encoded}
use Rattle.writeback.proofs.finish.Goals as goal

pub returns-then-budget-needed : goal.returns-then-budget-needed
returns-then-budget-needed c =
    let a = c.args in
    λ m frames. rw (c.cut.ensures.0, c.cut.ensures.1, lt-ltb a.budget a.needed (omega arith))

pub returns : goal.returns
unfolding encoded
returns c =
    let a = c.args in
    let b : c.encode.new.state ≡ encode a.cache = c.encode.ensures ∙ rw (eq-eqb _ _ c.told-state) in
    λ m frames. rw (b, le-ltb a.budget a.needed (omega arith))
