use Rattle.std.proofs.Common.{length}
use Rattle.coda_resolve.proofs.claims.+led.Given as goal

abbrev pub decreases-led : goal.decreases-led
decreases-led l = length l.claims.now
