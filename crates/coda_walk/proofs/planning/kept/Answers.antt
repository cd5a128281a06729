use Rattle.std.proofs.Common.{◌≡◌, List, subst}
use Rattle.std.specs.Prelude.{IfOk}
use Rattle.std.specs.List.{filter}
use Rattle.coda_fid.specs.declared.fid.Fid.{Fid}
use Rattle.coda_walk.specs.Planning.{fids_of}
use Rattle.coda_walk.specs.Climbing.{stays_by}
use Rattle.coda_walk.proofs.planning.kept.Goals as goal

pub returns : goal.returns
returns c size t chosen =
    subst (λ (l : List Fid). IfOk c.staying.result (λ v. v.items ≡ l))
    (λ i. fids_of (filter (stays_by (λ f. chosen.taken f i) (λ f. chosen.kept f i) (λ f. c.in_ok-gone.ensures f i)) c.args.items.now))
    c.staying.ensures
