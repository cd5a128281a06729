use Rattle.coda_rounds.proofs.CachesBehind.{caches_follow_clients as law}
use Rattle.coda_rounds.proofs.caches_follow_clients.Goals as goal

pub returns : goal.returns
returns c = law
