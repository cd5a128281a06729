use Rattle.std.proofs.Common.{◌≡◌, sym, ap, ◌∙◌}
use Rattle.coda_tree.specs.Bindings.{Pairs}
use Rattle.coda_tree.specs.Pages.{pairs_at, first_cmp}
use Rattle.coda_tree.proofs.Booleans.{gt_greater}
use Rattle.coda_tree.proofs.Paged.{pairs_here}
use Rattle.coda_tree.proofs.pages.begins_after.Goals as goal

pub returns-else-at-pages : goal.returns-else-at-pages
returns-else-at-pages c = λ is within.
    let pages = c.args.pages.now in
    let at = c.args.at in
    let read : c.compare_first.result ≡ first_cmp (pairs_at pages at) c.args.name.now =
    c.compare_first.ensures ∙ ap (λ (l : Pairs). first_cmp l c.args.name.now) (c.deref.ensures.value ∙ ap (λ page. page.items) c.index-pages-at.is ∙ pairs_here pages at c.index-pages-at.result within) in
    sym read ∙ gt_greater _ (sym c.is_gt.ensures ∙ is)
