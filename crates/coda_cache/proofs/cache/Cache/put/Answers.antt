use Rattle.std.proofs.Common.{refl}
use Rattle.coda_cache.specs.Indexed.{standing_of}
use Rattle.coda_cache.proofs.Standing.{indexed_put}
use Rattle.coda_cache.proofs.Covered.{covered_put}
use Rattle.coda_cache.proofs.Under.{under_put}
use Rattle.coda_cache.proofs.cache.Cache.put.Goals as goal

pub invariant_of-self-2 : goal.invariant_of-self-2
invariant_of-self-2 c =
    record {
      indexed =
          indexed_put c.self.inside.queued c.put-2.new.self c.self.inside.dirty c.set.new.self c.self.inside.contents c.put.new.self c.self.invariant.indexed
          c.args.fid c.args.parent c.args.node c.args.from (standing_of c.put.new.self c.args.fid) c.in_ok-put.ensures.ok refl c.put-2.ensures c.set.ensures;
      covered = covered_put c.set-2.new.self c.self.inside.contents c.put.new.self c.args.fid c.args.parent c.args.node c.args.from c.in_ok-put.ensures.ok (c.set-2.ensures _ c.self.invariant.covered);
      under = under_put c.set-3.new.self c.self.inside.contents c.put.new.self c.args.fid c.args.parent c.args.node c.args.from c.in_ok-put.ensures.ok c.parent.result c.parent.ensures (c.set-3.ensures _ c.self.invariant.under);
    }
