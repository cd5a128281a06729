use Rattle.std.proofs.Common.{◌≡◌, ◌∙◌, ◌++◌, List, ap, subst}
use Rattle.std.specs.Prelude.{IfOk}
use Rattle.std.specs.List.{filter}
use Rattle.coda_fid.specs.declared.fid.Fid.{Fid}
use Rattle.coda_walk.specs.Going.{who_goes}
use Rattle.coda_walk.specs.Climbing.{is_new}
use Rattle.coda_walk.proofs.planning.drops.Goals as goal

pub returns : goal.returns
returns c fids same =
    let items = c.args.items.now in
    subst (λ (l : List Fid). IfOk c.going.result (λ v. v.items ≡ l))
    (ap (who_goes c.args.size fids) (c.deref.ensures.value ∙ c.in_ok-add_kept.ensures ∙ (λ i. c.in_ok-stake.ensures i ++ filter (is_new (λ f. same f i)) items)))
    (c.going.ensures fids same)
