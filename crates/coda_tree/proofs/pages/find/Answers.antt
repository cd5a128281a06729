use Rattle.std.proofs.Common.{sym, ap, ◌∙◌}
use Rattle.std.specs.FinMap.Entries.{is_sorted, find}
use Rattle.coda_fid.specs.Name.{name_cmp}
use Rattle.coda_tree.proofs.Paged.{page_sorted, page_find, page_lent}
use Rattle.coda_tree.proofs.pages.find.Goals as goal

pub find_in-requires : goal.find_in-requires
find_in-requires c =
    ap (is_sorted name_cmp) (c.deref.ensures.value ∙ page_lent c.args.pages.now c.page_for-at.result c.index-pages-at.result c.index-pages-at.result c.page_for-at.ensures.in_range c.index-pages-at.is)
    ∙ page_sorted c.args.pages.now c.args.name.now c.page_for-at.result c.requires.filled c.requires.sorted c.page_for-at.ensures

pub returns : goal.returns
returns c =
    c.find_in.ensures
    ∙ ap (find name_cmp c.args.name.now) (c.deref.ensures.value ∙ page_lent c.args.pages.now c.page_for-at.result c.index-pages-at.result c.index-pages-at.result c.page_for-at.ensures.in_range c.index-pages-at.is)
    ∙ sym (page_find c.args.pages.now c.args.name.now c.page_for-at.result c.requires.filled c.requires.sorted c.page_for-at.ensures)
