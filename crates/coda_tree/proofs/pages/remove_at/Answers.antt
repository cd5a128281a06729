use Rattle.std.proofs.Common.{◌≡◌, ◌<◌, set, length, is_some, sym, ap, ◌∙◌, subst, arith}
use Rattle.std.specs.FinMap.Entries.{is_sorted, find}
use Rattle.coda_fid.specs.Name.{name_cmp}
use Rattle.coda_tree.specs.Bindings.{Pairs}
use Rattle.coda_tree.specs.Pages.{without}
use Rattle.coda_tree.proofs.Paged.{page_lent, page_gone, page_changed, set_here, set_length, is_zero}
use Rattle.coda_tree.proofs.pages.remove_at.Goals as goal

pub remove_in-was-requires : goal.remove_in-was-requires
remove_in-was-requires c = ap (is_sorted name_cmp) (page_lent c.args.pages.now.items c.args.at c.index_mut.result.now c.index_mut.result.now c.requires.there c.index_mut.ensures.value) ∙ c.requires.sorted

pub returns-then-is_empty-clause-was : goal.returns-then-is_empty-clause-was
returns-then-is_empty-clause-was c =
    c.remove_in-was.ensures.was ∙ ap (λ (l : Pairs). is_some (find name_cmp c.args.name.now l)) (page_lent c.args.pages.now.items c.args.at c.index_mut.result.now c.index_mut.result.now c.requires.there c.index_mut.ensures.value)

pub returns-else-is_empty-clause-was : goal.returns-else-is_empty-clause-was
returns-else-is_empty-clause-was c =
    c.remove_in-was.ensures.was ∙ ap (λ (l : Pairs). is_some (find name_cmp c.args.name.now l)) (page_lent c.args.pages.now.items c.args.at c.index_mut.result.now c.index_mut.result.now c.requires.there c.index_mut.ensures.value)

pub returns-then-is_empty-clause-pairs : goal.returns-then-is_empty-clause-pairs
returns-then-is_empty-clause-pairs c =
    let pages = c.args.pages.now.items in
    let page = c.remove_in-was.new.page in
    let within = subst (λ n. c.args.at < n) (sym (set_length pages c.args.at page)) c.requires.there in
    let read : c.index.result.now.items ≡ page.items = page_lent (set pages c.args.at page) c.args.at c.index.result.now c.index.result.now within c.index.ensures ∙ set_here pages c.args.at page c.requires.there in
    let none : length c.index.result.now.items ≡ 0 = let zero = is_zero _ (sym c.is_empty.ensures ∙ c.if-is_empty.true) in grind (arith, zero) in
    let lent = page_lent pages c.args.at c.index_mut.result.now c.index_mut.result.now c.requires.there c.index_mut.ensures.value in
    (page_gone pages c.remove.new.self.items c.args.at page _ c.remove.ensures.items (c.remove_in-was.ensures.pairs ∙ ap (without c.args.name.now) lent) (ap (λ (l : Pairs). length l) (sym read) ∙ none)).0

pub returns-else-is_empty-clause-pairs : goal.returns-else-is_empty-clause-pairs
returns-else-is_empty-clause-pairs c =
    let pages = c.args.pages.now.items in
    let page = c.remove_in-was.new.page in
    let lent = page_lent pages c.args.at c.index_mut.result.now c.index_mut.result.now c.requires.there c.index_mut.ensures.value in
    (page_changed pages c.args.at page _ (c.remove_in-was.ensures.pairs ∙ ap (without c.args.name.now) lent)).changed
