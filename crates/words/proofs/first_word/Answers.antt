-- `words::first_word` meets its contract: a word has its bytes back.
use Rattle.std.proofs.Common.{arith}
use Rattle.words.proofs.Texts.{no_word, word_read}
use Rattle.words.proofs.first_word.Goals as goal

pub returns-in_err-bytes : goal.returns-in_err-bytes
returns-in_err-bytes c = rw c.from_residual.ensures (no_word _ c.in_err-bytes.ensures.cases)

pub returns : goal.returns
returns c = word_read _ _ _ c.in_ok-bytes.ensures.cases (λ i. omega (arith, c.type_inv.text i)) c.from_le_bytes.ensures
