use Rattle.std.proofs.Common.{◌<◌, length, sym, ap, ◌∙◌, subst}
use Rattle.coda_tree.specs.Pages.{Pages, all_pairs}
use Rattle.coda_tree.proofs.Paged.{page_lent, page_split}
use Rattle.coda_tree.proofs.pages.split.Goals as goal

pub returns-clause-pairs : goal.returns-clause-pairs
returns-clause-pairs c =
    let same = c.reserve.ensures.items in
    let within : c.args.at < length c.reserve.new.self.items = subst (λ (p : Pages). c.args.at < length p) (sym same) c.requires in
    page_split c.reserve.new.self.items c.insert_page.new.pages.items c.args.at c.if-at-len.keep c.split_off.new.self c.in_ok-tail.tail c.index_mut.result.now c.insert_page.ensures.items c.in_ok-tail.ensures.items
    c.in_ok-tail.ensures.tail (page_lent c.reserve.new.self.items c.args.at c.index_mut.result.now c.index_mut.result.now within c.index_mut.ensures.value) within
    ∙ ap (λ (p : Pages). all_pairs p) same
