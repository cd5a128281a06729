use Rattle.coda_cache.proofs.Changed.{found_dirty}
use Rattle.coda_cache.proofs.cache.Cache.make_dirty.Goals as goal

pub invariant_of-self : goal.invariant_of-self
invariant_of-self c =
    found_dirty c.self.inside.queued c.self.inside.queued c.self.inside.dirty c.renew.new.self c.self.inside.sources c.self.inside.children c.self.inside.children c.self.inside.contents c.make_dirty.new.self c.self.invariant
    c.args.fids.now c.make_dirty.ensures c.renew.ensures
