use Rattle.coda_cache.proofs.Changed.{found_marked}
use Rattle.coda_cache.proofs.cache.Cache.mark.Goals as goal

pub invariant_of-self : goal.invariant_of-self
invariant_of-self c =
    found_marked c.self.inside.queued c.self.inside.queued c.self.inside.dirty c.set_as.new.self c.self.inside.sources c.self.inside.children c.self.inside.children c.self.inside.contents c.mark.new.self c.self.invariant
    c.args.fid c.args.dirty c.mark.ensures c.set_as.ensures
