use Rattle.std.proofs.Common.{length}
use Rattle.coda_resolve.proofs.doubles.+with_replicas.Given as goal

abbrev pub decreases-with_replicas : goal.decreases-with_replicas
decreases-with_replicas l = length l.copies.now
