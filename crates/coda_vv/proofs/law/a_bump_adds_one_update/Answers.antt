use Rattle.coda_vv.proofs.Sets.{bumps}
use Rattle.coda_vv.proofs.law.a_bump_adds_one_update.Goals as goal

pub returns : goal.returns
returns c = bumps
