-- `words::value_in` meets its contract: each sum fits, and so does what is added.
use Rattle.std.proofs.Common.{le-add_right, lt_of_le_of_lt}
use Rattle.words.proofs.Values.{pairs_fit, fours_fit, eight_fit, eight_value}
use Rattle.words.proofs.value_in.Goals as goal

pub overflow_mul-pairs : goal.overflow_mul-pairs
overflow_mul-pairs c = record { fits = lt_of_le_of_lt (le-add_right _ _) (pairs_fit c.args.word) }

pub overflow_add-pairs : goal.overflow_add-pairs
overflow_add-pairs c = record { fits = pairs_fit c.args.word }

pub overflow_mul-fours : goal.overflow_mul-fours
overflow_mul-fours c = record { fits = lt_of_le_of_lt (le-add_right _ _) (fours_fit c.args.word) }

pub overflow_add-fours : goal.overflow_add-fours
overflow_add-fours c = record { fits = fours_fit c.args.word }

pub overflow_mul-result : goal.overflow_mul-result
overflow_mul-result c = record { fits = lt_of_le_of_lt (le-add_right _ _) (eight_fit c.args.word) }

pub overflow_add-result : goal.overflow_add-result
overflow_add-result c = record { fits = eight_fit c.args.word }

pub returns : goal.returns
returns c = eight_value c.args.word
