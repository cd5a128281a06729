use Rattle.std.proofs.Common.{◌∙◌, List, ap}
use Rattle.std.specs.List.{filter}
use Rattle.coda_fid.specs.declared.fid.Fid.{Fid}
use Rattle.coda_walk.specs.Planning.{fids_of, is_kept, takes, plan}
use Rattle.coda_walk.proofs.planning.plan.Goals as goal

pub returns-clause-keep : goal.returns-clause-keep
unfolding plan
returns-clause-keep c r =
    let size = c.args.size in
    let items = c.args.items.now in
    let chosen = c.in_ok-chosen.ensures c.args.recency.now r in
    c.in_ok-keep.ensures size (takes size items) chosen
    ∙ ap (λ (l : List Fid). fids_of (filter (is_kept (takes size items) l) items)) (c.deref.ensures.value ∙ c.in_ok-drop.ensures (takes size items).kept chosen.kept)

pub returns-clause-fetch : goal.returns-clause-fetch
unfolding plan
returns-clause-fetch c r = c.in_ok-fetch.ensures c.args.size (takes c.args.size c.args.items.now) (c.in_ok-chosen.ensures c.args.recency.now r)

pub returns-clause-drop : goal.returns-clause-drop
unfolding plan
returns-clause-drop c r = c.in_ok-drop.ensures (takes c.args.size c.args.items.now).kept (c.in_ok-chosen.ensures c.args.recency.now r).kept
