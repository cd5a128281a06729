use Rattle.std.proofs.Common.{ap, ◌∙◌}
use Rattle.coda_cache.specs.State.{CacheState, is_dirty}
use Rattle.coda_cache.specs.Indexed.{standings}
use Rattle.coda_cache.proofs.Standing.{indexed_same, from_items, from_dirty}
use Rattle.coda_cache.proofs.Covered.{covered_left}
use Rattle.coda_cache.proofs.Under.{under_left}
use Rattle.coda_cache.proofs.cache.Cache.invalidate_among.Goals as goal

pub invariant_of-self : goal.invariant_of-self
invariant_of-self c =
    record {
      indexed =
          indexed_same c.self.inside.queued c.self.inside.queued c.self.inside.dirty c.self.inside.dirty c.self.inside.contents c.invalidate_among.new.self c.self.invariant.indexed
          (ap standings c.invalidate_among.ensures ∙ from_items c.self.inside.contents c.args.volume c.args.server)
          (λ g. ap (λ (s : CacheState). is_dirty s g) c.invalidate_among.ensures ∙ from_dirty c.self.inside.contents c.args.volume c.args.server g);
      covered = covered_left c.leave.new.self c.self.inside.contents c.invalidate_among.new.self c.args.volume c.args.server c.args.fids.now c.invalidate_among.ensures c.requires.volume (c.leave.ensures _ c.self.invariant.covered);
      under = under_left c.self.inside.children c.self.inside.contents c.invalidate_among.new.self c.args.volume c.args.server c.invalidate_among.ensures c.self.invariant.under;
    }
