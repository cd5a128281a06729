use Rattle.std.proofs.Common.{◌≡◌, true, ap, ◌∙◌, subst}
use Rattle.std.specs.FinMap.Entries.{is_sorted, put}
use Rattle.std.proofs.lemmas.Result.{on_ok_weaker, on_err_weaker}
use Rattle.coda_fid.specs.Name.{name_cmp}
use Rattle.coda_tree.specs.Pages.{Pages, all_pairs, IsPageFor}
use Rattle.coda_tree.proofs.Paged.{page_sorted, page_put, pairs_kept, either_way, put_some, filled_at}
use Rattle.coda_tree.proofs.pages.put_split.Goals as goal

pub put_at-requires-clause-sorted : goal.put_at-requires-clause-sorted
put_at-requires-clause-sorted c =
    page_sorted c.split.new.pages.items c.args.name c.page_for-at.result (c.in_ok-split.ensures.filled c.requires.filled) (ap (is_sorted name_cmp) c.in_ok-split.ensures.pairs ∙ c.requires.sorted)
    (subst (λ (p : Pages). IsPageFor p c.args.name c.page_for-at.result) c.deref.ensures.value c.page_for-at.ensures)

pub returns-clause-ok : goal.returns-clause-ok
returns-clause-ok c =
    let at = subst (λ (p : Pages). IsPageFor p c.args.name c.page_for-at.result) c.deref.ensures.value c.page_for-at.ensures in
    let up : is_sorted name_cmp (all_pairs c.split.new.pages.items) ≡ true = ap (is_sorted name_cmp) c.in_ok-split.ensures.pairs ∙ c.requires.sorted in
    on_ok_weaker c.put_at.result (λ change.
    change.changed ∙ page_put c.split.new.pages.items c.args.name c.page_for-at.result (c.in_ok-split.ensures.filled c.requires.filled) up at c.args.fid
    ∙ ap (put name_cmp c.args.name c.args.fid) c.in_ok-split.ensures.pairs) c.put_at.ensures.ok

pub returns-clause-err : goal.returns-clause-err
returns-clause-err c = on_err_weaker c.put_at.result (λ change. change.changed ∙ pairs_kept c.split.new.pages.items c.page_for-at.result ∙ c.in_ok-split.ensures.pairs) c.put_at.ensures.err

pub returns-clause-filled : goal.returns-clause-filled
returns-clause-filled c =
    let at = subst (λ (p : Pages). IsPageFor p c.args.name c.page_for-at.result) c.deref.ensures.value c.page_for-at.ensures in
    let filled = c.in_ok-split.ensures.filled c.requires.filled in
    either_way c.put_at.result c.put_at.ensures.ok c.put_at.ensures.err (λ change. change.filled filled (put_some _ c.args.name c.args.fid))
    (λ change. change.filled filled (filled_at c.split.new.pages.items c.page_for-at.result filled at.in_range))
