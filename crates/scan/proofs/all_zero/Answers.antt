-- `scan::all_zero` meets its contract: the bitwise or of all bytes is 0 where they are.
use mathlib.Core.Path.{◌≡◌}
use lib.Bits.{bit_or}
use borrow.Author.Rules.{rules}
use Rattle.std.specs.List.{fold}
use Rattle.scan.proofs.Zeros.{zero-fold}
use Rattle.scan.proofs.all_zero.Goals as goal

pub returns : goal.returns
returns c =
    let all : c.fold.result ≡ fold bit_or 0 c.args.bytes.now = search rules in
    rw all (zero-fold 0 c.args.bytes.now)
