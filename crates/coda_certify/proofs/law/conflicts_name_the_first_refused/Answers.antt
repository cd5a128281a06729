use Rattle.coda_certify.proofs.Records.{first_refused}
use Rattle.coda_certify.proofs.law.conflicts_name_the_first_refused.Goals as goal

pub returns : goal.returns
returns c = first_refused
