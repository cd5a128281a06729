use Rattle.coda_cache.proofs.Changed.{found_set}
use Rattle.coda_cache.proofs.cache.Cache.set_attributes.Goals as goal

pub invariant_of-self : goal.invariant_of-self
invariant_of-self c =
    found_set c.self.inside.queued c.self.inside.queued c.self.inside.dirty c.self.inside.dirty c.self.inside.sources c.self.inside.children c.self.inside.children c.self.inside.contents c.set_attributes.new.self c.self.invariant
    c.args.fid c.args.attrs.now c.args.sid c.set_attributes.ensures
