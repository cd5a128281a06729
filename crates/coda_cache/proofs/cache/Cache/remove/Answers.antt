use Rattle.std.proofs.Common.{ap, ◌∙◌}
use Rattle.coda_cache.specs.Ways.{at_or_below}
use Rattle.coda_cache.specs.Steps.{dropped}
use Rattle.coda_cache.proofs.Removed.{dropped_same}
use Rattle.coda_cache.proofs.cache.Cache.remove.Goals as goal

pub returns-in-Ok : goal.returns-in-Ok
returns-in-Ok c =
    c.drop_all.ensures ∙ ap (dropped c.args.self.now) c.deref.ensures.value ∙ dropped_same c.args.self.now c.in-Ok.gone.items (at_or_below c.args.self.now c.args.fid) c.in-Ok.ensures
