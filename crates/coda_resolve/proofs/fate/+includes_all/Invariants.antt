use Rattle.std.proofs.Common.{length}
use Rattle.coda_resolve.proofs.fate.+includes_all.Given as goal

abbrev pub decreases-includes_all : goal.decreases-includes_all
decreases-includes_all l = length l.copies.now
