use Rattle.coda_group.proofs.Marked.{resolved_replicas_are_equal_or_marked}
use Rattle.coda_group.proofs.law.resolved_replicas_are_equal_or_marked.Goals as goal

pub returns : goal.returns
returns c = resolved_replicas_are_equal_or_marked
