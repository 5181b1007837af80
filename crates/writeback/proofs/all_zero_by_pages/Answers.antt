-- `writeback::all_zero_by_pages` meets its contract: all whole pages, and then what is left.
use lib.Dec.{eqb}
use borrow.Author.Rules.{rules}
use Rattle.std.proofs.Common.{tests}
use Rattle.std.proofs.lemmas.Iterator.{YieldsList-from_slice}
use Rattle.std.proofs.lemmas.Iterator.Search.{all_from_yields_List}
use Rattle.writeback.proofs.Zeros.{chunks_checked}
use Rattle.writeback.proofs.all_zero_by_pages.Goals as goal

pub returns-then-all : goal.returns-then-all
returns-then-all c =
    let whole = chunks_checked (λ b. eqb b 0) _ _ _ _ _ _ c.as_chunks.ensures.front c.as_chunks.ensures.back
    (all_from_yields_List _ _ _ _ c.all.ensures.ran (YieldsList-from_slice c.as_chunks.result.0.now cc) (λ x b q k. search (rules, tests))) in
    rw (whole, c.if-all.true) c.all_zero.ensures

pub returns-else-all : goal.returns-else-all
returns-else-all c =
    let whole = chunks_checked (λ b. eqb b 0) _ _ _ _ _ _ c.as_chunks.ensures.front c.as_chunks.ensures.back
    (all_from_yields_List _ _ _ _ c.all.ensures.ran (YieldsList-from_slice c.as_chunks.result.0.now cc) (λ x b q k. search (rules, tests))) in
    rw (whole, c.if-all.false)
