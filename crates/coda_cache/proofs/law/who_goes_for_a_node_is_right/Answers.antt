use Rattle.coda_cache.proofs.Rightly.{goes_rightly_for}
use Rattle.coda_cache.proofs.law.who_goes_for_a_node_is_right.Goals as goal

pub returns : goal.returns
returns c = λ s f parent blocks keep gone k may is. goes_rightly_for s f parent blocks keep gone k may is
