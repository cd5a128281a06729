use Rattle.coda_reslog.proofs.Ends.{rings_keep_the_latest}
use Rattle.coda_reslog.proofs.law.rings_keep_the_latest.Goals as goal

pub returns : goal.returns
returns c = rings_keep_the_latest
