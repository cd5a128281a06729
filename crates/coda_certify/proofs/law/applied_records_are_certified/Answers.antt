use Rattle.coda_certify.proofs.Records.{certified_after}
use Rattle.coda_certify.proofs.law.applied_records_are_certified.Goals as goal

pub returns : goal.returns
returns c = certified_after
