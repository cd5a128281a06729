use Rattle.coda_cache.proofs.Under.{none_kept}
use Rattle.coda_cache.proofs.children.forget.Goals as goal

pub returns : goal.returns
returns c p f = none_kept c.args.parents.now c.remove.new.self c.args.parent c.remove.ensures.updates.0 c.requires p f
