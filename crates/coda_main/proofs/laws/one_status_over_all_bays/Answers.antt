use Rattle.coda_engine.proofs.OneStatus.{one_status}
use Rattle.coda_main.proofs.Telling.{lines_tell}
use Rattle.coda_main.proofs.laws.one_status_over_all_bays.Goals as goal

pub returns : goal.returns
returns c = one_status lines_tell tt tt tt tt
