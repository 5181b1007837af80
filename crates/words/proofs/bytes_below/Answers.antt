-- `words::bytes_below` meets its contract.
use Rattle.std.proofs.Common.{arith}
use lib.Count.{trailing_le}
use Rattle.words.proofs.bytes_below.Goals as goal

pub overflow_cast-result : goal.overflow_cast-result
overflow_cast-result c = omega (arith, trailing_le 64 c.args.marks)
