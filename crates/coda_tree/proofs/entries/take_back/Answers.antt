use Rattle.std.proofs.Common.{sym, ◌∙◌, subst, arith}
use Rattle.coda_tree.specs.Pages.{Pages, IsPageFor}
use Rattle.coda_tree.proofs.Paged.{page_sorted, page_find, page_put, page_small}
use Rattle.coda_tree.proofs.entries.take_back.Goals as goal

pub take_back_at-requires-clause-sorted : goal.take_back_at-requires-clause-sorted
take_back_at-requires-clause-sorted c =
    page_sorted c.args.pages.now.items c.args.name c.page_for-at.result c.requires.filled c.requires.sorted (subst (λ (p : Pages). IsPageFor p c.args.name c.page_for-at.result) c.deref.ensures.value c.page_for-at.ensures)

pub take_back_at-requires-clause-free : goal.take_back_at-requires-clause-free
take_back_at-requires-clause-free c =
    sym (page_find c.args.pages.now.items c.args.name c.page_for-at.result c.requires.filled c.requires.sorted (subst (λ (p : Pages). IsPageFor p c.args.name c.page_for-at.result) c.deref.ensures.value c.page_for-at.ensures))
    ∙ c.requires.free

pub take_back_at-requires-clause-room : goal.take_back_at-requires-clause-room
take_back_at-requires-clause-room c = let small = page_small c.args.pages.now.items c.page_for-at.result in omega (arith, small, c.requires.room)

pub returns-clause-pairs : goal.returns-clause-pairs
returns-clause-pairs c =
    c.take_back_at.ensures.changed
    ∙ page_put c.args.pages.now.items c.args.name c.page_for-at.result c.requires.filled c.requires.sorted
    (subst (λ (p : Pages). IsPageFor p c.args.name c.page_for-at.result) c.deref.ensures.value c.page_for-at.ensures) c.args.fid
