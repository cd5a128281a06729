use Rattle.std.proofs.Common.{◌∙◌, arith}
use Rattle.coda_vv.proofs.Lanes.{joined_is}
use Rattle.coda_vv.proofs.vector.Vv.merge.Goals as goal

pub returns : goal.returns
returns c = c.max8.ensures ∙ joined_is c.args.self.now.0 c.args.other.now.0 (omega arith)
