use Rattle.coda_runs.proofs.Mounted.{own_disks_are_not_foreign}
use Rattle.coda_runs.proofs.laws.own_disks_are_not_foreign.Goals as goal

pub returns : goal.returns
returns c = own_disks_are_not_foreign
