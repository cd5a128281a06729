use Rattle.coda_callback.proofs.Ranges.{on_more}
use Rattle.coda_callback.proofs.kept.watched_on.Goals as goal

pub loop-fid-preserved : goal.loop-fid-preserved
loop-fid-preserved c = on_more c.args.watched.now c.args.fids.now c.loop-fid.fid-index _ c.loop-fid.found.items c.add_on.new.found.items c.requires c.loop-fid-test.true c.loop-fid.invariant c.in_ok-add_on.ensures.ok
