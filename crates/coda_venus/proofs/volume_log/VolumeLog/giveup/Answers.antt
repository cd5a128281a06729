use Rattle.coda_venus.proofs.Chunked.{given}
use Rattle.coda_venus.proofs.volume_log.VolumeLog.giveup.Goals as goal

pub returns-in-Ok-clause-may : goal.returns-in-Ok-clause-may
returns-in-Ok-clause-may c = given c.args.self.now.log.frozen c.args.self.now.log.records c.in-Ok.recs c.in-Ok.ensures.frozen c.in-Ok.ensures.nothing
