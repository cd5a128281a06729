use Rattle.std.proofs.Common.{◌≡◌, ◌∙◌, ◌++◌, ◌∷◌, [], List, Some, ap, sym, map, take}
use Rattle.std.specs.FinMap as finmap
use Rattle.std.specs.FinMap.{is_sorted}
use Rattle.std.specs.BTreeMap.{get}
use Rattle.coda_fid.specs.Fid.{fid_cmp}
use Rattle.coda_fid.specs.declared.fid.Fid.{Fid}
use Rattle.coda_reslog.specs.declared.change.Held.{Held}
use Rattle.coda_resolve.specs.Counted.{has_fid}
use Rattle.coda_resolve.specs.Views.{objects_in, objects_of}
use Rattle.coda_repair.specs.Making.{spare_at, or_else}
use Rattle.coda_repair.proofs.Filling.{one_spared, fids_more}
use Rattle.coda_repair.proofs.Lookups.{object_at}
use Rattle.coda_repair.proofs.part.spare.Goals as goal

pub loop-place-preserved : goal.loop-place-preserved
loop-place-preserved c = λ f.
    let items = c.objects-objects.result.now in
    let view = objects_of c.args.view.now in
    let set = has_fid c.args.subtree.now in
    let below = has_fid c.args.below.now in
    let o = c.index-objects-place.result in
    let place = c.loop-place.place in
    let first = get fid_cmp c.args.held.now f in
    let fids : List Fid = map (λ (o : Fid × Held). o.0) (take place items) in
    let has : finmap.get view o.0 ≡ Some o.1 = ap (λ ps. finmap.get (objects_in ps) o.0) (sym c.objects-objects.ensures) ∙ object_at items place o (ap (is_sorted fid_cmp) c.objects-objects.ensures ∙ c.requires) c.loop-place-test.true c.index-objects-place.is in
    one_spared set below c.args.top view fids o.0 f o.1 (get fid_cmp c.loop-place.held f) (get fid_cmp c.spare_one.new.held f) first has (c.loop-place.invariant f) (c.in_ok-spare_one.ensures f)
    ∙ ap (λ fs. or_else (spare_at set below c.args.top view fs f) first) (sym (fids_more items place o c.loop-place-test.true ∙ ap (λ (p : Fid × Held). fids ++ p.0 ∷ []) (sym c.index-objects-place.is)))
