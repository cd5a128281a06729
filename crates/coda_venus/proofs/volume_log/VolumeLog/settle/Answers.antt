use Rattle.coda_venus.proofs.Unsettled.{only_frozen}
use Rattle.coda_venus.proofs.volume_log.VolumeLog.settle.Goals as goal

pub returns-in-Ok-clause-only : goal.returns-in-Ok-clause-only
returns-in-Ok-clause-only c = only_frozen c.args.self.now.log.frozen c.args.number c.in-Ok.field-0 c.in-Ok.ensures.causes
