use Rattle.coda_lineage.proofs.Possible.{certified_decided}
use Rattle.coda_lineage.proofs.law.certified_records_are_decided.Goals as goal

pub returns : goal.returns
returns c = certified_decided
