use Rattle.std.proofs.Common.{◌≡◌, sym, ap, ◌∙◌}
use Rattle.std.proofs.lemmas.Bool.{not-true}
use Rattle.coda_tree.specs.Bindings.{Pairs}
use Rattle.coda_tree.specs.Pages.{pairs_at, first_cmp}
use Rattle.coda_tree.proofs.Booleans.{not_greater}
use Rattle.coda_tree.proofs.Paged.{pairs_here}
use Rattle.coda_tree.proofs.pages.begins_by.Goals as goal

pub returns-else-at-eq0 : goal.returns-else-at-eq0
returns-else-at-eq0 c = λ is some over.
    let pages = c.args.pages.now in
    let at = c.args.at in
    let read : c.compare_first.result ≡ first_cmp (pairs_at pages at) c.args.name.now =
    c.compare_first.ensures ∙ ap (λ (l : Pairs). first_cmp l c.args.name.now) (c.deref.ensures.value ∙ ap (λ page. page.items) c.index-pages-at.is ∙ pairs_here pages at c.index-pages-at.result c.requires) in
    not_greater _ (sym c.is_gt.ensures ∙ not-true _ is) (read ∙ over)
