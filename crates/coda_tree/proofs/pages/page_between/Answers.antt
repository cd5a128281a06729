use Rattle.std.proofs.Common.{◌≡◌, ◌<◌, length, sym, ap, ◌∙◌, arith}
use Rattle.coda_tree.specs.Bindings.{Pairs}
use Rattle.coda_tree.specs.Pages.{pairs_at, first_cmp}
use Rattle.coda_tree.proofs.Booleans.{gt_greater, not_greater}
use Rattle.coda_tree.proofs.Paged.{pairs_here}
use Rattle.coda_tree.proofs.pages.page_between.Goals as goal

pub loop-low-preserved-then-is_gt : goal.loop-low-preserved-then-is_gt
loop-low-preserved-then-is_gt c =
    let pages = c.args.pages.now in
    let mid = c.probe-mid.result in
    let within : mid < length pages = omega (arith, c.loop-low.invariant.in_range, c.probe-mid.ensures.below) in
    let read : c.compare_first.result ≡ first_cmp (pairs_at pages mid) c.args.name.now =
    c.compare_first.ensures ∙ ap (λ (l : Pairs). first_cmp l c.args.name.now) (c.deref.ensures.value ∙ ap (λ page. page.items) c.index-pages-mid.is ∙ pairs_here pages mid c.index-pages-mid.result within) in
    record {
      ordered = c.probe-mid.ensures.inner (omega (arith, c.loop-low-test.true));
      in_range = omega (arith, within);
      from = c.loop-low.invariant.from;
      to = λ _. sym read ∙ gt_greater _ (sym c.is_gt.ensures ∙ c.if-is_gt.true);
    }

pub loop-low-preserved : goal.loop-low-preserved
loop-low-preserved c =
    let pages = c.args.pages.now in
    let mid = c.probe-mid.result in
    let within : mid < length pages = omega (arith, c.loop-low.invariant.in_range, c.probe-mid.ensures.below) in
    let read : c.compare_first.result ≡ first_cmp (pairs_at pages mid) c.args.name.now =
    c.compare_first.ensures ∙ ap (λ (l : Pairs). first_cmp l c.args.name.now) (c.deref.ensures.value ∙ ap (λ page. page.items) c.index-pages-mid.is ∙ pairs_here pages mid c.index-pages-mid.result within) in
    record {
      ordered = c.probe-mid.ensures.below;
      in_range = c.loop-low.invariant.in_range;
      from = λ _ over. not_greater _ (sym c.is_gt.ensures ∙ c.if-is_gt.false) (read ∙ over);
      to = c.loop-low.invariant.to;
    }
