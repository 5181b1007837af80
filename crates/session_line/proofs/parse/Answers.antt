-- `session_line::parse` meets its contract: the length and the comma after the letter decide first, then the letter, then the numbers.
use Rattle.std.proofs.Common.{◌≡◌, ℕ, List, Option, None, arith}
use Rattle.session_line.specs.declared.Request.{Request}
use Rattle.session_line.specs.Grammar.{forms, parse, malformed, F, M, W, T, S, R}
use Rattle.session_line.specs.Parser.{Within}
use Rattle.session_line.specs.Request.{spelled}
use Rattle.session_line.proofs.Grammar.{limits_of, no_form, numbers-within, parse-long, parse-short, parse_alone, parse_no_letter, parse_unfit, parse-fit}
use Rattle.session_line.proofs.parse.Goals as goal

pub returns-then-line-gt-GREATEST_LINE : goal.returns-then-line-gt-GREATEST_LINE
returns-then-line-gt-GREATEST_LINE c = (parse-long _ (omega arith), tt)

pub returns-in_default : goal.returns-in_default
returns-in_default c = (parse-short _ (omega arith) (omega arith), tt)

pub returns-in_default-2 : goal.returns-in_default-2
returns-in_default-2 c = (parse_alone _ (omega arith) (omega arith) (λ e. absurd (omega (arith, e))), tt)

pub returns-in_default-letter : goal.returns-in_default-letter
returns-in_default-letter c = (
  parse_no_letter _ (omega arith) (omega arith) (omega arith) (no_form _ (omega arith) (omega arith) (omega arith) (omega arith) (omega arith) (omega arith)),
  tt,
)

-- a line that has no such numbers
unfit : (line : List ℕ) (r : Option Request) → r ≡ None → malformed ≡ parse line → (spelled r ≡ parse line) × Within r
unfit line r e h = rw e (h, tt)

pub returns-in_err-budget-in-70 : goal.returns-in_err-budget-in-70
unfolding limits_of forms
returns-in_err-budget-in-70 c = unfit _ _ c.from_residual.ensures (parse_unfit _ (omega arith) (omega arith) (omega arith) F c.in-70.is c.in_err-budget-in-70.ensures)

pub returns-in_err-budget-in-77 : goal.returns-in_err-budget-in-77
unfolding limits_of forms
returns-in_err-budget-in-77 c = unfit _ _ c.from_residual-in_err-budget-in-77.ensures (parse_unfit _ (omega arith) (omega arith) (omega arith) M c.in-77.is c.in_err-budget-in-77.ensures)

pub returns-in_err-file-in-87 : goal.returns-in_err-file-in-87
unfolding limits_of forms
returns-in_err-file-in-87 c = unfit _ _ c.from_residual-in_err-file-in-87.ensures (parse_unfit _ (omega arith) (omega arith) (omega arith) W c.in-87.is c.in_err-file-in-87.ensures)

pub returns-in_err-file-in-84 : goal.returns-in_err-file-in-84
unfolding limits_of forms
returns-in_err-file-in-84 c = unfit _ _ c.from_residual-in_err-file-in-84.ensures (parse_unfit _ (omega arith) (omega arith) (omega arith) T c.in-84.is c.in_err-file-in-84.ensures)

pub returns-in_err-file-in-83 : goal.returns-in_err-file-in-83
unfolding limits_of forms
returns-in_err-file-in-83 c = unfit _ _ c.from_residual-in_err-file-in-83.ensures (parse_unfit _ (omega arith) (omega arith) (omega arith) S c.in-83.is c.in_err-file-in-83.ensures)

pub returns-in_err-file-in-82 : goal.returns-in_err-file-in-82
unfolding limits_of forms
returns-in_err-file-in-82 c = unfit _ _ c.from_residual-in_err-file-in-82.ensures (parse_unfit _ (omega arith) (omega arith) (omega arith) R c.in-82.is c.in_err-file-in-82.ensures)

pub returns-in_ok-budget-in-70 : goal.returns-in_ok-budget-in-70
unfolding limits_of forms
returns-in_ok-budget-in-70 c = (parse-fit _ (omega arith) (omega arith) (omega arith) F c.in-70.is _ c.in_ok-budget-in-70.ensures, tt)

pub returns-in_ok-budget-in-77 : goal.returns-in_ok-budget-in-77
unfolding limits_of forms
returns-in_ok-budget-in-77 c = (parse-fit _ (omega arith) (omega arith) (omega arith) M c.in-77.is _ c.in_ok-budget-in-77.ensures, tt)

pub returns-in_ok-file-in-87 : goal.returns-in_ok-file-in-87
unfolding limits_of forms
returns-in_ok-file-in-87 c = (parse-fit _ (omega arith) (omega arith) (omega arith) W c.in-87.is _ c.in_ok-file-in-87.ensures, numbers-within _ _ _ c.in_ok-file-in-87.ensures 2 (omega arith))

pub overflow_cast-result : goal.overflow_cast-result
overflow_cast-result c = omega (arith, numbers-within _ _ _ c.in_ok-file-in-87.ensures 3 (omega arith))

pub returns-in_ok-file-in-84 : goal.returns-in_ok-file-in-84
unfolding limits_of forms
returns-in_ok-file-in-84 c = (parse-fit _ (omega arith) (omega arith) (omega arith) T c.in-84.is _ c.in_ok-file-in-84.ensures, tt)

pub returns-in_ok-file-in-83 : goal.returns-in_ok-file-in-83
unfolding limits_of forms
returns-in_ok-file-in-83 c = (parse-fit _ (omega arith) (omega arith) (omega arith) S c.in-83.is _ c.in_ok-file-in-83.ensures, tt)

pub returns-in_ok-file-in-82 : goal.returns-in_ok-file-in-82
unfolding limits_of forms
returns-in_ok-file-in-82 c = (parse-fit _ (omega arith) (omega arith) (omega arith) R c.in-82.is _ c.in_ok-file-in-82.ensures, numbers-within _ _ _ c.in_ok-file-in-82.ensures 2 (omega arith))
