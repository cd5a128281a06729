use Rattle.std.proofs.Common.{sym}
use Rattle.coda_venus.proofs.Reached.{up_one}
use Rattle.coda_venus.proofs.client.Client.leads_up.Goals as goal

pub loop-preserved : goal.loop-preserved
loop-preserved c = up_one c.args.self.now.cache.nodes c.loop.at c.in-Some.dir c.args.fid c.loop.invariant.0 (sym c.in-Some.ensures) c.loop.invariant.1
