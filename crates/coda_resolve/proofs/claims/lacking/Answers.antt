use Rattle.std.proofs.Common.{ap, ◌∙◌}
use Rattle.coda_resolve.specs.Claims.{has_name}
use Rattle.coda_resolve.proofs.Bound.{no_name}
use Rattle.coda_resolve.proofs.claims.lacking.Goals as goal

pub loop-update-init : goal.loop-update-init
loop-update-init c = λ n. ap (λ names. has_name names n) c.new-names.ensures ∙ no_name n
