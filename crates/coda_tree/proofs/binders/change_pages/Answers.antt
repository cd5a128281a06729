use Rattle.std.proofs.Common.{inl, refl, subst, arith}
use Rattle.std.proofs.Math.ListN.{drop_of_length-le}
use Rattle.coda_tree.specs.Bindings.{Pairs}
use Rattle.coda_tree.specs.Pages.{Pages, all_pairs}
use Rattle.coda_tree.specs.Binders.{bound_at, after_all, SaysNoMore, Notes}
use Rattle.coda_tree.proofs.Known.{says_trans, pages_step}
use Rattle.coda_tree.proofs.binders.change_pages.Goals as goal

pub loop-page-init : goal.loop-page-init
loop-page-init c = λ q. inl refl

pub loop-page-preserved : goal.loop-page-preserved
loop-page-preserved c = λ q. says_trans _ _ _ (c.loop-page.invariant q)
    (pages_step c.args.change c.args.pages.now c.loop-page.page-index c.page-item.result c.loop-page.binders c.change_page.new.binders (omega (arith, c.loop-page-test.true)) c.page-item.is
    (subst (λ (l : Pairs). Notes c.loop-page.binders c.change_page.new.binders (after_all c.args.change l)) c.deref.ensures.value c.change_page.ensures) q)

pub returns : goal.returns
returns c = λ q. subst (λ (p : Pages). SaysNoMore (after_all c.args.change (all_pairs c.args.pages.now) q (bound_at c.args.binders.now q)) (after_all c.args.change (all_pairs p) q (bound_at c.loop-page.binders q)))
    (drop_of_length-le c.args.pages.now c.loop-page-test.false) (c.loop-page.invariant q)
