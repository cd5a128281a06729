use Rattle.std.proofs.Common.{Some, sym, ap, ◌∙◌, arith}
use Rattle.coda_tree.proofs.Paged.{pair_here, pair_later}
use Rattle.coda_tree.proofs.pages.pair_at.Goals as goal

pub loop-page-preserved : goal.loop-page-preserved
loop-page-preserved c =
    let len = c.len-left.ensures in
    let past = c.if-left-len.false in
    let before = c.len.ensures in
    pair_later c.args.pages.now c.loop-page.page-index c.loop-page.left c.len-left.result c.page-item.result (omega (arith, c.loop-page-test.true)) c.page-item.is (grind (arith, len)) (omega (arith, len, past, before)) ∙ c.loop-page.invariant

pub returns-then-left-len : goal.returns-then-left-len
returns-then-left-len c =
    let lt = c.if-left-len.true in
    let len = c.len.ensures in
    sym (sym c.loop-page.invariant ∙ pair_here c.args.pages.now c.loop-page.page-index c.loop-page.left c.page-item.result c.index.result.now (omega (arith, c.loop-page-test.true)) c.page-item.is (grind (arith, lt, len)) ∙ ap Some (sym c.index.ensures))
