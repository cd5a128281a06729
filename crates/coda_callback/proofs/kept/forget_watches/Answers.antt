use Rattle.coda_callback.specs.Kept.{is_watched}
use Rattle.coda_callback.proofs.Loops.{lost_more}
use Rattle.coda_callback.proofs.kept.forget_watches.Goals as goal

pub loop-interest-preserved : goal.loop-interest-preserved
loop-interest-preserved c = lost_more (is_watched c.args.watched.now) (is_watched c.loop-interest.watched) (is_watched c.forget_watch.new.watched) c.args.moved.now c.loop-interest.interest-index _ c.loop-interest-test.true c.forget_watch.ensures c.loop-interest.invariant
