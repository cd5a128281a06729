use Rattle.coda_lineage.proofs.Updating.{decisions_count_updates}
use Rattle.coda_lineage.proofs.law.decisions_count_updates.Goals as goal

pub returns : goal.returns
returns c = decisions_count_updates
