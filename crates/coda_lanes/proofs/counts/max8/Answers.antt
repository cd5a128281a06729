use Rattle.std.proofs.Common.{arith}
use Rattle.coda_lanes.proofs.Comparing.{selected}
use Rattle.coda_lanes.proofs.counts.max8.Goals as goal

pub returns : goal.returns
returns c = selected c.args.a.now c.args.b.now (omega arith)
