use Rattle.coda_copies.proofs.Refetched.{unbind as law}
use Rattle.coda_copies.proofs.fetches_may_unbind.Goals as goal

pub returns : goal.returns
returns c = law
