use Rattle.std.proofs.Common.{◌≡◌, IsSome, get_or, sym, ap, ◌∙◌, subst}
use Rattle.std.proofs.lemmas.List.{get_or_default}
use Rattle.coda_fid.specs.declared.fid.Fid.{Fid}
use Rattle.coda_tree.specs.Bindings.{Name, Pairs, IsIndexOf, IsGapFor}
use Rattle.coda_tree.proofs.Pairs.{put_at, find_gap}
use Rattle.coda_tree.proofs.pages.rebind_in.Goals as goal

pub returns-in-Ok : goal.returns-in-Ok
returns-in-Ok c =
    let items = c.args.page.now.items in
    let found = subst (λ (l : Pairs). IsIndexOf l c.args.name.now c.in-Ok.at) c.deref.ensures.value c.in-Ok.ensures.found in
    let key : (d : Name × Fid) → (get_or items c.in-Ok.at d).0 ≡ c.index_mut.result.now.0 = λ d. ap (λ (e : Name × Fid). e.0) (get_or_default items c.in-Ok.at d c.index_mut.result.now found.in_range ∙ sym c.index_mut.ensures.value) in
    sym (put_at items c.args.name.now c.args.fid c.in-Ok.at c.index_mut.result.now.0 c.requires.sorted found key)

pub returns-in-Err : goal.returns-in-Err
returns-in-Err c =
    let gap = subst (λ (l : Pairs). IsGapFor l c.args.name.now c.in-Err.field-0) c.deref.ensures.value c.in-Err.ensures.absent in
    let bound = subst IsSome (find_gap c.args.page.now.items c.args.name.now c.in-Err.field-0 gap) c.requires.bound in
    cc
