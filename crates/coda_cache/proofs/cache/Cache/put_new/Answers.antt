use Rattle.std.proofs.Common.{Some, None, refl, ap, ◌∙◌}
use Rattle.coda_cache.specs.State.{CacheState, is_cached}
use Rattle.coda_cache.specs.Indexed.{standing_of}
use Rattle.coda_cache.proofs.Standing.{indexed_put}
use Rattle.coda_cache.proofs.Covered.{covered_put}
use Rattle.coda_cache.proofs.Sourced.{covered_without}
use Rattle.coda_cache.proofs.Under.{under_put, under_new}
use Rattle.coda_cache.proofs.cache.Cache.put_new.Goals as goal

pub invariant_of-self-2 : goal.invariant_of-self-2
invariant_of-self-2 c =
    let old = c.self.inside.contents in
    let new = c.begin.new.self in
    let fid = c.args.fid in
    let put = c.in_ok-begin.ensures.ok in
    record {
      indexed = indexed_put c.self.inside.queued c.put.new.self c.self.inside.dirty c.set.new.self old new c.self.invariant.indexed fid (Some c.args.dir) c.args.node None (standing_of new fid) put refl c.put.ensures c.set.ensures;
      covered = covered_put c.self.inside.sources old new fid (Some c.args.dir) c.args.node None put (covered_without c.self.inside.sources _ fid c.self.invariant.covered);
      under = under_put c.set-2.new.self old new fid (Some c.args.dir) c.args.node None put (Some c.args.dir) (under_new old new fid c.args.dir c.args.node None put c.agree.ensures (ap (λ (s : CacheState). is_cached s fid) c.self.view_is ∙ c.requires)) (c.set-2.ensures _ c.self.invariant.under);
    }
