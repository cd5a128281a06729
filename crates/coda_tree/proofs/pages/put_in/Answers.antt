use Rattle.std.proofs.Common.{◌≡◌, get_or, sym, ap, ◌∙◌, subst}
use Rattle.std.proofs.lemmas.List.{get_or_default}
use Rattle.coda_fid.specs.declared.fid.Fid.{Fid}
use Rattle.coda_tree.specs.Bindings.{Name, Pairs, IsIndexOf, IsGapFor}
use Rattle.coda_tree.proofs.Pairs.{put_at, put_gap}
use Rattle.coda_tree.proofs.pages.put_in.Goals as goal

pub returns-in-Ok-clause-ok : goal.returns-in-Ok-clause-ok
returns-in-Ok-clause-ok c =
    let items = c.args.page.now.items in
    let found = subst (λ (l : Pairs). IsIndexOf l c.args.name c.in-Ok.at) c.deref.ensures.value c.in-Ok.ensures.found in
    let key : (d : Name × Fid) → (get_or items c.in-Ok.at d).0 ≡ c.index_mut.result.now.0 = λ d. ap (λ (e : Name × Fid). e.0) (get_or_default items c.in-Ok.at d c.index_mut.result.now found.in_range ∙ sym c.index_mut.ensures.value) in
    sym (put_at items c.args.name c.args.fid c.in-Ok.at c.index_mut.result.now.0 c.requires found key)

pub returns-in_ok-insert-in-Err-clause-ok : goal.returns-in_ok-insert-in-Err-clause-ok
returns-in_ok-insert-in-Err-clause-ok c =
    let gap = subst (λ (l : Pairs). IsGapFor l c.args.name c.in-Err.at) c.deref.ensures.value c.in-Err.ensures.absent in
    c.in_ok-insert-in-Err.ensures.items ∙ sym (put_gap c.args.page.now.items c.args.name c.args.fid c.in-Err.at gap)
