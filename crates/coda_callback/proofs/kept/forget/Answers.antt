use Rattle.coda_callback.specs.Kept.{has}
use Rattle.coda_callback.proofs.Loops.{lost_more}
use Rattle.coda_callback.proofs.kept.forget.Goals as goal

pub loop-interest-preserved : goal.loop-interest-preserved
loop-interest-preserved c = lost_more (has c.args.kept.now) (has c.loop-interest.kept) (has c.remove.new.self) c.args.moved.now c.loop-interest.interest-index _ c.loop-interest-test.true c.remove.ensures.updates.0 c.loop-interest.invariant
