use Rattle.std.proofs.Common.{ap, ◌∙◌}
use Rattle.coda_cache.specs.Indexed.{standings}
use Rattle.coda_cache.proofs.Standing.{indexed_marked}
use Rattle.coda_cache.proofs.Pinned.{pinned_of_items}
use Rattle.coda_cache.proofs.Covered.{covered_pinned}
use Rattle.coda_cache.proofs.Under.{under_pinned}
use Rattle.coda_cache.proofs.cache.Cache.pin_all.Goals as goal

pub invariant_of-self : goal.invariant_of-self
invariant_of-self c =
    record {
      indexed =
          indexed_marked c.self.inside.queued c.self.inside.queued c.self.inside.dirty c.of.result c.self.inside.contents c.pin_all.new.self c.self.invariant.indexed
          (ap standings c.pin_all.ensures ∙ pinned_of_items c.self.inside.contents c.args.volume c.args.fids.now) c.of.ensures;
      covered = covered_pinned c.self.inside.sources c.self.inside.contents c.pin_all.new.self c.args.volume c.args.fids.now c.pin_all.ensures c.self.invariant.covered;
      under = under_pinned c.self.inside.children c.self.inside.contents c.pin_all.new.self c.args.volume c.args.fids.now c.pin_all.ensures c.self.invariant.under;
    }
