use Rattle.std.proofs.Common.{is_some, sym, ap, ◌∙◌, subst}
use Rattle.coda_tree.specs.Pages.{Pages, IsPageFor}
use Rattle.coda_tree.proofs.Paged.{page_sorted, page_find, page_without}
use Rattle.coda_tree.proofs.pages.remove.Goals as goal

pub remove_at-requires-clause-sorted : goal.remove_at-requires-clause-sorted
remove_at-requires-clause-sorted c =
    page_sorted c.args.pages.now.items c.args.name.now c.page_for-at.result c.requires.filled c.requires.sorted (subst (λ (p : Pages). IsPageFor p c.args.name.now c.page_for-at.result) c.deref.ensures.value c.page_for-at.ensures)

pub returns-clause-pairs : goal.returns-clause-pairs
returns-clause-pairs c =
    c.remove_at.ensures.pairs
    ∙ page_without c.args.pages.now.items c.args.name.now c.page_for-at.result c.requires.filled c.requires.sorted
    (subst (λ (p : Pages). IsPageFor p c.args.name.now c.page_for-at.result) c.deref.ensures.value c.page_for-at.ensures)

pub returns-clause-was : goal.returns-clause-was
returns-clause-was c =
    c.remove_at.ensures.was
    ∙ ap is_some (sym (page_find c.args.pages.now.items c.args.name.now c.page_for-at.result c.requires.filled c.requires.sorted
    (subst (λ (p : Pages). IsPageFor p c.args.name.now c.page_for-at.result) c.deref.ensures.value c.page_for-at.ensures)))
