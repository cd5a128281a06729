use Rattle.coda_cancel.proofs.Mentioned.{take_lost}
use Rattle.coda_cancel.proofs.mentions.take.Goals as goal

pub returns : goal.returns
returns c = take_lost c.args.index.now c.remove.new.self c.args.fid c.args.number c.remove.ensures.updates
