use Rattle.std.proofs.Common.{inl, refl, subst, arith}
use Rattle.std.proofs.Math.ListN.{drop_of_length-le}
use Rattle.coda_tree.specs.Bindings.{Pairs}
use Rattle.coda_tree.specs.Binders.{bound_at, after_all, SaysNoMore}
use Rattle.coda_tree.proofs.Known.{says_trans, page_step}
use Rattle.coda_tree.proofs.binders.change_page.Goals as goal

pub loop-pair-init : goal.loop-pair-init
loop-pair-init c = λ q. inl refl

pub loop-pair-preserved : goal.loop-pair-preserved
loop-pair-preserved c = λ q. says_trans _ _ _ (c.loop-pair.invariant q)
    (page_step c.args.change c.args.page.now c.loop-pair.pair-index c.pair-item.result c.loop-pair.binders c.change.new.self (omega (arith, c.loop-pair-test.true)) c.pair-item.is c.change.ensures q)

pub returns : goal.returns
returns c = λ q. subst (λ (l : Pairs). SaysNoMore (after_all c.args.change c.args.page.now q (bound_at c.args.binders.now q)) (after_all c.args.change l q (bound_at c.loop-pair.binders q)))
    (drop_of_length-le c.args.page.now c.loop-pair-test.false) (c.loop-pair.invariant q)
