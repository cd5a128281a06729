use Rattle.std.proofs.Common.{◌∙◌, subst}
use Rattle.std.proofs.lemmas.Result.{on_ok_weaker, on_err_weaker}
use Rattle.coda_tree.specs.Pages.{Pages, IsPageFor}
use Rattle.coda_tree.proofs.Paged.{page_sorted, page_put, pairs_kept, either_way, put_some, filled_at}
use Rattle.coda_tree.proofs.pages.put.Goals as goal

pub put_at-requires-clause-sorted : goal.put_at-requires-clause-sorted
put_at-requires-clause-sorted c =
    page_sorted c.args.pages.now.items c.args.name c.page_for-at.result c.requires.filled c.requires.sorted (subst (λ (p : Pages). IsPageFor p c.args.name c.page_for-at.result) c.deref.ensures.value c.page_for-at.ensures)

pub returns-then-len-lt-FULL-clause-ok : goal.returns-then-len-lt-FULL-clause-ok
returns-then-len-lt-FULL-clause-ok c =
    let at = subst (λ (p : Pages). IsPageFor p c.args.name c.page_for-at.result) c.deref.ensures.value c.page_for-at.ensures in
    on_ok_weaker c.put_at.result (λ change. change.changed ∙ page_put c.args.pages.now.items c.args.name c.page_for-at.result c.requires.filled c.requires.sorted at c.args.fid) c.put_at.ensures.ok

pub returns-then-len-lt-FULL-clause-err : goal.returns-then-len-lt-FULL-clause-err
returns-then-len-lt-FULL-clause-err c = on_err_weaker c.put_at.result (λ change. change.changed ∙ pairs_kept c.args.pages.now.items c.page_for-at.result) c.put_at.ensures.err

pub returns-then-len-lt-FULL-clause-filled : goal.returns-then-len-lt-FULL-clause-filled
returns-then-len-lt-FULL-clause-filled c =
    let at = subst (λ (p : Pages). IsPageFor p c.args.name c.page_for-at.result) c.deref.ensures.value c.page_for-at.ensures in
    either_way c.put_at.result c.put_at.ensures.ok c.put_at.ensures.err (λ change. change.filled c.requires.filled (put_some _ c.args.name c.args.fid))
    (λ change. change.filled c.requires.filled (filled_at c.args.pages.now.items c.page_for-at.result c.requires.filled at.in_range))
