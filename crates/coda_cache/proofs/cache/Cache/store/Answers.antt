use Rattle.std.proofs.Common.{refl}
use Rattle.coda_tree.specs.Volume.{written, content_patch}
use Rattle.coda_cache.specs.Indexed.{standing_of}
use Rattle.coda_cache.proofs.Changed.{found_changed}
use Rattle.coda_cache.proofs.cache.Cache.store.Goals as goal

pub invariant_of-self : goal.invariant_of-self
invariant_of-self c =
    found_changed c.self.inside.queued c.change.new.self c.self.inside.dirty c.self.inside.dirty c.self.inside.sources c.self.inside.children c.self.inside.children c.self.inside.contents c.store.new.self c.self.invariant
    c.args.fid (standing_of c.store.new.self c.args.fid) (written (content_patch c.args.content c.args.mtime) c.args.sid) c.store.ensures refl c.change.ensures
