use Rattle.coda_walk.proofs.Loops.{depth_step}
use Rattle.coda_walk.proofs.planning.depth.Goals as goal

pub loop-step-preserved : goal.loop-step-preserved
loop-step-preserved c = depth_step c.args.items.now c.loop-step.step c.loop-step.at c.in-Some.on c.parent-at.result _ c.loop-step-test.true c.in-Some.is c.parent-at.ensures c.loop-step.invariant
