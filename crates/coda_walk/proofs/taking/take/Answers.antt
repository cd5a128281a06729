use Rattle.std.proofs.Common.{subst, sym, ap, ◌∙◌}
use Rattle.std.specs.Prelude as prelude
use Rattle.std.specs.List.{filter}
use Rattle.coda_walk.specs.Planning.{Taken, taken_of, taken_with, takes, pinned_of, candidate_of, is_candidate}
use Rattle.coda_walk.specs.Climbing.{AreChosen}
use Rattle.coda_walk.proofs.Orders.{keys_are, candidates_total, exact_candidates}
use Rattle.coda_walk.proofs.taking.take.Goals as goal

pub loop-candidate-init : goal.loop-candidate-init
unfolding takes
loop-candidate-init c recency r =
    let items = c.args.items.now in
    let keys = keys_are candidates_total exact_candidates c.in_ok-candidates.candidates.keys (prelude.map candidate_of (filter is_candidate items)) c.iter-candidate-items.ensures.ordered c.in_ok-candidates.ensures in
    (pinned_of items, c.in_ok-chosen.ensures recency r, ap (taken_of c.args.size items (pinned_of items)) (c.into_iter-candidate-iterator.ensures.into_iter_gives ∙ c.iter-candidate-items.ensures.rest ∙ keys))

pub loop-candidate-preserved : goal.loop-candidate-preserved
loop-candidate-preserved c recency r =
    let items = c.args.items.now in
    let inv = c.loop-candidate.invariant recency r in (
      taken_with c.args.size items inv.0 c.in-Some.candidate.now.fid,
      c.in_ok-take_one.ensures c.args.size recency inv.0 r inv.1,
      sym (ap (taken_of c.args.size items inv.0) c.in-Some.ensures.steps) ∙ inv.2,
    )

pub returns : goal.returns
returns c recency r =
    let inv = c.loop-candidate.invariant recency r in
    subst (λ (t : Taken). AreChosen c.args.size c.args.items.now t c.loop-candidate.chosen) (sym (ap (taken_of c.args.size c.args.items.now inv.0) c.in-None.ensures.steps.0) ∙ inv.2) inv.1
