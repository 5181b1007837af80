-- `words::letters_in` meets its contract.
use Rattle.std.proofs.Common.{◌∙◌}
use Rattle.words.proofs.Lanes.{letters-counted}
use Rattle.words.proofs.letters_in.Goals as goal

pub returns : goal.returns
returns c = c.bytes_below.ensures ∙ rw (c.no_digit.ensures, c.no_capital.ensures) (letters-counted c.args.word)
