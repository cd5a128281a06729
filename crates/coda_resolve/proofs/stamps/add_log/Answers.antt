use Rattle.coda_resolve.proofs.Stamped.{one_more_stamped}
use Rattle.coda_resolve.proofs.stamps.add_log.Goals as goal

pub loop-index-preserved : goal.loop-index-preserved
loop-index-preserved c = one_more_stamped c.args.stamps.now c.loop-index.stamps c.add_stamp.new.stamps c.args.log.now c.loop-index.index c.in-Some.update.now c.in-Some.ensures c.loop-index.invariant c.in_ok-add_stamp.ensures
