use Rattle.std.proofs.Common.{refl}
use Rattle.coda_cache.specs.Indexed.{standing_of}
use Rattle.coda_cache.proofs.Changed.{found_under}
use Rattle.coda_cache.proofs.cache.Cache.move_under.Goals as goal

pub invariant_of-self : goal.invariant_of-self
invariant_of-self c =
    found_under c.self.inside.queued c.change.new.self c.self.inside.dirty c.self.inside.dirty c.self.inside.sources c.self.inside.children c.set.new.self c.self.inside.contents c.move_under.new.self c.self.invariant
    c.args.fid c.args.dir (standing_of c.move_under.new.self c.args.fid) c.parent.result c.move_under.ensures refl c.change.ensures c.parent.ensures (c.set.ensures _ c.self.invariant.under)
