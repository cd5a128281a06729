use Rattle.std.proofs.Common.{refl}
use Rattle.coda_tree.specs.Volume.{bind_in}
use Rattle.coda_cache.specs.Indexed.{standing_of}
use Rattle.coda_cache.proofs.Changed.{found_changed}
use Rattle.coda_cache.proofs.cache.Cache.bind.Goals as goal

pub invariant_of-self-2 : goal.invariant_of-self-2
invariant_of-self-2 c =
    found_changed c.self.inside.queued c.change.new.self c.self.inside.dirty c.self.inside.dirty c.self.inside.sources c.self.inside.children c.self.inside.children c.self.inside.contents c.bind.new.self c.self.invariant
    c.args.dir (standing_of c.bind.new.self c.args.dir) (λ node. bind_in node c.args.name c.args.fid) c.in_ok-bind.ensures.ok refl c.change.ensures
