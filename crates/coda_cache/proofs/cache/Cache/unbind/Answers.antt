use Rattle.std.proofs.Common.{refl}
use Rattle.coda_tree.specs.Volume.{unbind_in}
use Rattle.coda_cache.specs.Indexed.{standing_of}
use Rattle.coda_cache.proofs.Changed.{found_changed}
use Rattle.coda_cache.proofs.cache.Cache.unbind.Goals as goal

pub invariant_of-self : goal.invariant_of-self
invariant_of-self c =
    found_changed c.self.inside.queued c.change.new.self c.self.inside.dirty c.self.inside.dirty c.self.inside.sources c.self.inside.children c.self.inside.children c.self.inside.contents c.unbind.new.self c.self.invariant
    c.args.dir (standing_of c.unbind.new.self c.args.dir) (λ node. unbind_in node c.args.name.now) c.unbind.ensures refl c.change.ensures
