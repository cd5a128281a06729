use Rattle.coda_repair.proofs.Laws.{found_lead_alike}
use Rattle.coda_repair.proofs.law.found_lead_alike.Goals as goal

pub returns : goal.returns
returns c = found_lead_alike
