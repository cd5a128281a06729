use Rattle.coda_lineage.proofs.Merges.{merges_resolve}
use Rattle.coda_lineage.proofs.law.merges_are_resolutions.Goals as goal

pub returns : goal.returns
returns c = merges_resolve
