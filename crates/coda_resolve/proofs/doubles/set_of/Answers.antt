use Rattle.std.proofs.Common.{take}
use Rattle.coda_resolve.proofs.Counts.{one_fid_more}
use Rattle.coda_resolve.proofs.doubles.set_of.Goals as goal

pub loop-fid-preserved : goal.loop-fid-preserved
loop-fid-preserved c = one_fid_more c.add_one.new.set c.args.fids.now c.loop-fid.fid-index (record { volume = 0; vnode = 0; uniq = 0 }) c.loop-fid-test.true (c.in_ok-add_one.ensures (take c.loop-fid.fid-index c.args.fids.now) c.loop-fid.invariant)
