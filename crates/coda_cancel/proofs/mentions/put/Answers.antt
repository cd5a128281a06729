use Rattle.coda_cancel.proofs.Mentioned.{put_gained}
use Rattle.coda_cancel.proofs.mentions.put.Goals as goal

pub returns-clause-ok : goal.returns-clause-ok
returns-clause-ok c = put_gained c.args.index.now c.insert.new.self c.args.fid c.args.number c.in_ok-insert.ensures.updates
