-- `boxstore::boxstore_truncate_sizes` meets its contract: SHAPE, or the rule on the record of the three numbers.
use native.Mathlib.Omega.{arith}
use Rattle.answer.specs.Coded.{coded}
use Rattle.boxstore.proofs.Counts.{fits, rule_small}
use Rattle.boxstore.proofs.Replies.{sizes-shape, sizes-call}
use Rattle.boxstore.proofs.boxstore_truncate_sizes.Goals as goal

pub returns-then-sizes-ne3 : goal.returns-then-sizes-ne3
returns-then-sizes-ne3 c = sizes-shape c.args.sizes.now (λ e. omega arith) _ _

pub answer_word-requires : goal.answer_word-requires
answer_word-requires c = fits _ _ 0 c.sizes_answer.ensures (rule_small _ _ _) (omega arith)

pub returns : goal.returns
returns c = sizes-call c.args.sizes.now (omega arith) c.args.greatest c.args.n c.sizes_after-after.result (coded c.sizes_answer.result) _ c.sizes_after-after.ensures c.sizes_answer.ensures c.answer_word.ensures
