use Rattle.std.proofs.Common.{ap, ◌∙◌}
use Rattle.std.specs.FinMap.Entries.{is_sorted, put}
use Rattle.std.proofs.lemmas.Result.{on_ok_weaker, on_err_weaker}
use Rattle.coda_fid.specs.Name.{name_cmp}
use Rattle.coda_tree.proofs.Paged.{page_lent, page_changed}
use Rattle.coda_tree.proofs.pages.put_at.Goals as goal

pub put_in-requires : goal.put_in-requires
put_in-requires c = ap (is_sorted name_cmp) (page_lent c.args.pages.now.items c.args.at c.index_mut.result.now c.index_mut.result.now c.requires.there c.index_mut.ensures.value) ∙ c.requires.sorted

pub returns-clause-ok : goal.returns-clause-ok
returns-clause-ok c =
    let lent = page_lent c.args.pages.now.items c.args.at c.index_mut.result.now c.index_mut.result.now c.requires.there c.index_mut.ensures.value in
    on_ok_weaker c.put_in.result (λ is. page_changed c.args.pages.now.items c.args.at c.put_in.new.page _ (is ∙ ap (put name_cmp c.args.name c.args.fid) lent)) c.put_in.ensures.ok

pub returns-clause-err : goal.returns-clause-err
returns-clause-err c =
    let lent = page_lent c.args.pages.now.items c.args.at c.index_mut.result.now c.index_mut.result.now c.requires.there c.index_mut.ensures.value in
    on_err_weaker c.put_in.result (λ is. page_changed c.args.pages.now.items c.args.at c.put_in.new.page _ (is ∙ lent)) c.put_in.ensures.err
