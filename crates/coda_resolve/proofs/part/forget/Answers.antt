use Rattle.coda_resolve.proofs.Assembled.{forgotten_more}
use Rattle.coda_resolve.proofs.part.forget.Goals as goal

pub loop-fid-preserved : goal.loop-fid-preserved
loop-fid-preserved c = forgotten_more c.args.held.now c.loop-fid.held c.remove.new.self c.args.objects.now c.loop-fid.fid-index (record { volume = 0; vnode = 0; uniq = 0 }) c.loop-fid-test.true c.loop-fid.invariant c.remove.ensures.updates
