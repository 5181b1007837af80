-- `writeback::needs_trim` meets its contract: the size decides where it differs, and otherwise the bytes.
use mathlib.Core.Path.{sym}
use mathlib.Core.Bool.{or-true, or-false}
use borrow.Author.Tests.{eq-eqb, ne_eqb}
use Rattle.writeback.specs.Trims.{needs_trim}
use Rattle.writeback.proofs.needs_trim.Goals as goal

pub returns-then-sizes-file : goal.returns-then-sizes-file
unfolding needs_trim
returns-then-sizes-file c = rw (ne_eqb _ _ c.if-sizes-file.true) (sym (or-true _))

pub returns-else-sizes-file : goal.returns-else-sizes-file
unfolding needs_trim
returns-else-sizes-file c = rw (c.nonzero_from.ensures c.args.sizes.now, eq-eqb _ _ c.if-sizes-file.false) (sym (or-false _))
