use Rattle.std.proofs.Common.{◌≡◌, ◌-◌, ◌++◌, ◌∷◌, [], length, ap, ◌∙◌}
use Rattle.std.specs.BTreeSet as tree_set
use Rattle.coda_fid.specs.Fid.{fid_cmp}
use Rattle.coda_walk.specs.Climbing.{new_on, unless}
use Rattle.coda_walk.proofs.Steps.{going_over}
use Rattle.coda_walk.proofs.Ways.{new_none}
use Rattle.coda_walk.proofs.Loops.{new_step}
use Rattle.coda_walk.proofs.taking.new_above.Goals as goal

pub returns-in-None : goal.returns-in-None
returns-in-None c =
    let items = c.args.items.now in
    let test = tree_set.contains fid_cmp c.args.kept.now in
    let steps = length items - c.loop-step._step in
    going_over c.loop-step.way.items (new_on items test steps c.loop-step.at) _ (ap (new_on items test steps) c.in-None.is ∙ new_none items test steps) c.loop-step.invariant

pub loop-step-preserved : goal.loop-step-preserved
loop-step-preserved c =
    let items = c.args.items.now in
    let test = tree_set.contains fid_cmp c.args.kept.now in
    let pushed : c.push.new.self.items ≡ c.loop-step.way.items ++ c.in-Some.on ∷ [] = c.in_ok-push-in-Some.ensures.items in
    let up = c.unless-at-in-Some.ensures ∙ ap (unless test) c.parent.ensures in
    new_step items test c.loop-step.way.items c.push.new.self.items _ c.loop-step._step c.in-Some.on c.loop-step.at c.unless-at-in-Some.result c.loop-step-test.true c.in-Some.is pushed up c.loop-step.invariant
