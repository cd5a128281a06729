use Rattle.coda_resolve.specs.Counted.{is_in_one}
use Rattle.coda_resolve.proofs.Counts.{least_item}
use Rattle.coda_resolve.proofs.doubles.least_in.Goals as goal

pub loop-fid-preserved : goal.loop-fid-preserved
loop-fid-preserved c = least_item (is_in_one c.args.twice.now c.args.lost.now c.args.elsewhere.now) c.args.fids.now c.loop-fid.fid-index (record { volume = 0; vnode = 0; uniq = 0 }) c.loop-fid.least c.with_fid-least.result c.loop-fid-test.true c.loop-fid.invariant c.with_fid-least.ensures
