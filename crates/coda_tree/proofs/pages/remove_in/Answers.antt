use Rattle.std.proofs.Common.{is_some, sym, ap, ◌∙◌, subst}
use Rattle.coda_tree.specs.Bindings.{Pairs, IsIndexOf, IsGapFor}
use Rattle.coda_tree.proofs.Pairs.{find_at, find_gap}
use Rattle.coda_tree.proofs.Paged.{without_at, without_gap}
use Rattle.coda_tree.proofs.pages.remove_in.Goals as goal

pub returns-in-Ok : goal.returns-in-Ok
returns-in-Ok c =
    let items = c.args.page.now.items in
    let found = subst (λ (l : Pairs). IsIndexOf l c.args.name.now c.in-Ok.at) c.deref.ensures.value c.in-Ok.ensures.found in
    record {
      pairs = c.remove.ensures.items ∙ sym (without_at items c.args.name.now c.in-Ok.at c.requires found);
      was = sym (ap is_some (find_at items c.args.name.now c.in-Ok.at c.remove.result c.requires found));
    }

pub returns-in-Err : goal.returns-in-Err
returns-in-Err c =
    let items = c.args.page.now.items in
    let gap = subst (λ (l : Pairs). IsGapFor l c.args.name.now c.in-Err.field-0) c.deref.ensures.value c.in-Err.ensures.absent in
    record {
      pairs = sym (without_gap items c.args.name.now c.in-Err.field-0 gap);
      was = sym (ap is_some (find_gap items c.args.name.now c.in-Err.field-0 gap));
    }
