-- `words::digits_in` meets its contract.
use Rattle.std.proofs.Common.{◌∙◌}
use Rattle.words.proofs.Lanes.{digits-counted}
use Rattle.words.proofs.digits_in.Goals as goal

pub returns : goal.returns
returns c = c.bytes_below.ensures ∙ rw c.no_digit.ensures (digits-counted c.args.word)
