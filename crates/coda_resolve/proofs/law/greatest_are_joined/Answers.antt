use Rattle.coda_resolve.proofs.Told.{greatest_are_joined}
use Rattle.coda_resolve.proofs.law.greatest_are_joined.Goals as goal

pub returns : goal.returns
returns c = greatest_are_joined
