use Rattle.std.proofs.Common.{IsSome, ◌∙◌, subst}
use Rattle.coda_tree.specs.Pages.{Pages, IsPageFor}
use Rattle.coda_tree.proofs.Paged.{page_sorted, page_find, page_put}
use Rattle.coda_tree.proofs.pages.rebind.Goals as goal

pub rebind_at-requires-clause-sorted : goal.rebind_at-requires-clause-sorted
rebind_at-requires-clause-sorted c =
    page_sorted c.args.pages.now.items c.args.name.now c.page_for-at.result c.requires.filled c.requires.sorted (subst (λ (p : Pages). IsPageFor p c.args.name.now c.page_for-at.result) c.deref.ensures.value c.page_for-at.ensures)

pub rebind_at-requires-clause-bound : goal.rebind_at-requires-clause-bound
rebind_at-requires-clause-bound c =
    subst IsSome
    (page_find c.args.pages.now.items c.args.name.now c.page_for-at.result c.requires.filled c.requires.sorted (subst (λ (p : Pages). IsPageFor p c.args.name.now c.page_for-at.result) c.deref.ensures.value c.page_for-at.ensures))
    c.requires.bound

pub returns-clause-pairs : goal.returns-clause-pairs
returns-clause-pairs c =
    c.rebind_at.ensures.changed
    ∙ page_put c.args.pages.now.items c.args.name.now c.page_for-at.result c.requires.filled c.requires.sorted
    (subst (λ (p : Pages). IsPageFor p c.args.name.now c.page_for-at.result) c.deref.ensures.value c.page_for-at.ensures) c.args.fid
