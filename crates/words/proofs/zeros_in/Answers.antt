-- `words::zeros_in` meets its contract.
use Rattle.std.proofs.Common.{◌∙◌}
use Rattle.words.proofs.Lanes.{zeros-counted}
use Rattle.words.proofs.zeros_in.Goals as goal

pub returns : goal.returns
returns c = c.bytes_below.ensures ∙ zeros-counted c.args.word
