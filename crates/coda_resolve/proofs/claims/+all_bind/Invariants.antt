use Rattle.std.proofs.Common.{length}
use Rattle.coda_resolve.proofs.claims.+all_bind.Given as goal

abbrev pub decreases-all_bind : goal.decreases-all_bind
decreases-all_bind l = length l.copies.now
