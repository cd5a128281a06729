use Rattle.std.proofs.Common.{◌≡◌, ◌∙◌, List, ap, subst}
use Rattle.std.specs.Prelude.{IfOk}
use Rattle.std.specs.Prelude as prelude
use Rattle.std.specs.List.{filter}
use Rattle.coda_fid.specs.declared.fid.Fid.{Fid}
use Rattle.coda_walk.specs.declared.candidate.Place.{Place}
use Rattle.coda_walk.specs.Planning.{in_order, place_of, place_cmp}
use Rattle.coda_walk.specs.Climbing.{fetched_by}
use Rattle.coda_walk.proofs.Orders.{keys_are, places_total, exact_places}
use Rattle.coda_walk.proofs.planning.fetched.Goals as goal

pub returns : goal.returns
returns c size t chosen =
    let items = c.args.items.now in
    let keys = keys_are places_total exact_places c.in_ok-places.places.keys _ c.standing_at.ensures.ordered c.in_ok-places.ensures in
    let fids = λ (l : List Place). prelude.map (λ (p : Place). p.fid) l in
    subst (λ (l : List Fid). IfOk c.standing_at.result (λ v. v.items ≡ l))
    (ap fids keys ∙ (λ i. fids (in_order place_cmp (prelude.map (place_of items) (filter (fetched_by (λ f. chosen.taken f i) (λ f. chosen.kept f i)) items)))))
    c.standing_at.ensures.fids
