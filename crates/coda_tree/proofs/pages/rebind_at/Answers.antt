use Rattle.std.proofs.Common.{IsSome, sym, ap, ◌∙◌, subst}
use Rattle.std.specs.FinMap.Entries.{is_sorted, put, find}
use Rattle.coda_fid.specs.Name.{name_cmp}
use Rattle.coda_tree.specs.Bindings.{Pairs}
use Rattle.coda_tree.proofs.Paged.{page_lent, page_changed}
use Rattle.coda_tree.proofs.pages.rebind_at.Goals as goal

pub rebind_in-requires-clause-sorted : goal.rebind_in-requires-clause-sorted
rebind_in-requires-clause-sorted c = ap (is_sorted name_cmp) (page_lent c.args.pages.now.items c.args.at c.index_mut.result.now c.index_mut.result.now c.requires.there c.index_mut.ensures.value) ∙ c.requires.sorted

pub rebind_in-requires-clause-bound : goal.rebind_in-requires-clause-bound
rebind_in-requires-clause-bound c =
    subst (λ (l : Pairs). IsSome (find name_cmp c.args.name.now l)) (sym (page_lent c.args.pages.now.items c.args.at c.index_mut.result.now c.index_mut.result.now c.requires.there c.index_mut.ensures.value))
    c.requires.bound

pub returns : goal.returns
returns c =
    let lent = page_lent c.args.pages.now.items c.args.at c.index_mut.result.now c.index_mut.result.now c.requires.there c.index_mut.ensures.value in
    page_changed c.args.pages.now.items c.args.at c.rebind_in.new.page _ (c.rebind_in.ensures ∙ ap (put name_cmp c.args.name.now c.args.fid) lent)
