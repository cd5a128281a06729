use Rattle.coda_cancel.proofs.Ahead.{begins_ahead}
use Rattle.coda_cancel.proofs.mentions.mentions_of.Goals as goal

pub returns : goal.returns
returns c = begins_ahead c.args.index.now c.args.fid c.range.result (c.range.ensures.between tt) c.range.ensures.ordered
