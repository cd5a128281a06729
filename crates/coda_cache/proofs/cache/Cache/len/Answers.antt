use Rattle.std.proofs.Common.{ap, ◌∙◌}
use Rattle.std.specs.FinMap as map
use Rattle.coda_cache.specs.State.{CacheState}
use Rattle.coda_cache.proofs.ParentsHeld.{as_many}
use Rattle.coda_cache.proofs.cache.Cache.len.Goals as goal

pub returns : goal.returns
returns c = c.len.ensures ∙ as_many c.self.inside.contents.holds c.self.inside.contents.nodes c.agree.ensures.held ∙ ap (λ (s : CacheState). map.len s.nodes) c.self.view_is
