use Rattle.std.proofs.Common.{length}
use Rattle.coda_resolve.proofs.merged.+attributes_in.Given as goal

abbrev pub decreases-attributes_in : goal.decreases-attributes_in
decreases-attributes_in l = length l.copies.now
