use Rattle.std.proofs.Common.{[], refl, ap, ◌∙◌}
use Rattle.std.proofs.lemmas.Bool.{both_ways}
use Rattle.coda_cache.specs.State.{CacheState, is_dirty}
use Rattle.coda_cache.specs.Indexed.{standings}
use Rattle.coda_cache.proofs.Standing.{indexed_same, from_items, from_dirty}
use Rattle.coda_cache.proofs.Covered.{covered_left}
use Rattle.coda_cache.proofs.Under.{under_left}
use Rattle.coda_cache.proofs.cache.Cache.invalidate_all.Goals as goal

pub invariant_of-self : goal.invariant_of-self
invariant_of-self c =
    record {
      indexed =
          indexed_same c.self.inside.queued c.self.inside.queued c.self.inside.dirty c.self.inside.dirty c.self.inside.contents c.invalidate_from.new.self c.self.invariant.indexed
          (ap standings c.invalidate_from.ensures ∙ from_items c.self.inside.contents c.args.volume c.args.server)
          (λ g. ap (λ (s : CacheState). is_dirty s g) c.invalidate_from.ensures ∙ from_dirty c.self.inside.contents c.args.volume c.args.server g);
      covered = covered_left c.self.inside.sources c.self.inside.contents c.invalidate_from.new.self c.args.volume c.args.server [] c.invalidate_from.ensures (λ f h. absurd (both_ways _ refl h)) c.self.invariant.covered;
      under = under_left c.self.inside.children c.self.inside.contents c.invalidate_from.new.self c.args.volume c.args.server c.invalidate_from.ensures c.self.invariant.under;
    }
