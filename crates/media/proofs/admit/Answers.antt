-- `media::admit` meets its contract: at each return the tests that led there decide the answer.
use native.Mathlib.Omega.{arith}
use Rattle.media.proofs.Direct.{media-shape, size_no_file, size-range, size-done}
use Rattle.media.proofs.admit.Goals as goal

pub returns-then-media-file_len-clause-answer : goal.returns-then-media-file_len-clause-answer
returns-then-media-file_len-clause-answer c = media-shape _ _ _ _ (rw c.file_len.ensures at c.then-media-file_len.either)

pub returns-then-file-ge-FILES-clause-answer : goal.returns-then-file-ge-FILES-clause-answer
returns-then-file-ge-FILES-clause-answer c = size_no_file _ _ _ _ (omega arith) (omega arith) (omega arith)

pub returns-then-file_len-n-clause-answer : goal.returns-then-file_len-n-clause-answer
returns-then-file_len-n-clause-answer c = size-range _ _ _ _ (omega arith) (omega arith) (omega arith) (omega arith)

pub returns-clause-answer : goal.returns-clause-answer
returns-clause-answer c = size-done _ _ _ _ (omega arith) (omega arith) (omega arith) (omega arith)
