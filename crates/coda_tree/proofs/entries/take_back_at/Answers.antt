use Rattle.std.proofs.Common.{◌<◌, length, sym, ap, ◌∙◌, subst}
use Rattle.std.specs.FinMap.Entries.{is_sorted, put, find}
use Rattle.coda_fid.specs.Name.{name_cmp}
use Rattle.coda_tree.specs.Bindings.{Pairs}
use Rattle.coda_tree.proofs.Paged.{page_lent, page_changed}
use Rattle.coda_tree.proofs.entries.take_back_at.Goals as goal

pub take_back_in-requires-clause-sorted : goal.take_back_in-requires-clause-sorted
take_back_in-requires-clause-sorted c = ap (is_sorted name_cmp) (page_lent c.args.pages.now.items c.args.at c.index_mut.result.now c.index_mut.result.now c.requires.there c.index_mut.ensures.value) ∙ c.requires.sorted

pub take_back_in-requires-clause-free : goal.take_back_in-requires-clause-free
take_back_in-requires-clause-free c = ap (find name_cmp c.args.name) (page_lent c.args.pages.now.items c.args.at c.index_mut.result.now c.index_mut.result.now c.requires.there c.index_mut.ensures.value) ∙ c.requires.free

pub take_back_in-requires-clause-room : goal.take_back_in-requires-clause-room
take_back_in-requires-clause-room c =
    subst (λ (l : Pairs). length l < c.args.room) (sym (page_lent c.args.pages.now.items c.args.at c.index_mut.result.now c.index_mut.result.now c.requires.there c.index_mut.ensures.value)) c.requires.room

pub returns : goal.returns
returns c =
    let lent = page_lent c.args.pages.now.items c.args.at c.index_mut.result.now c.index_mut.result.now c.requires.there c.index_mut.ensures.value in
    page_changed c.args.pages.now.items c.args.at c.take_back_in.new.page _ (c.take_back_in.ensures ∙ ap (put name_cmp c.args.name c.args.fid) lent)
