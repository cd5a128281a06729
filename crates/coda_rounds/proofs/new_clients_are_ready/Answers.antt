use Rattle.coda_rounds.proofs.NewClient.{new_clients_are_ready as law}
use Rattle.coda_rounds.proofs.new_clients_are_ready.Goals as goal

pub returns : goal.returns
returns c = law
