use Rattle.coda_resolve.proofs.Merging.{fids_seen}
use Rattle.coda_resolve.proofs.volume.add_fids.Goals as goal

pub loop-fid-preserved : goal.loop-fid-preserved
loop-fid-preserved c = fids_seen c.args.set.now c.loop-fid.set c.insert.new.self c.args.fids.now c.loop-fid.fid-index (record { volume = 0; vnode = 0; uniq = 0 }) c.loop-fid-test.true c.loop-fid.invariant c.in_ok-insert.ensures.updates
