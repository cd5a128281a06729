use Rattle.coda_rounds.proofs.Readiness.{clients_stay_ready as law}
use Rattle.coda_rounds.proofs.clients_stay_ready.Goals as goal

pub returns : goal.returns
returns c = law
