use Rattle.std.proofs.Common.{sym, ap, ◌∙◌}
use Rattle.coda_cache.specs.State.{CacheState, is_dirty}
use Rattle.coda_cache.proofs.Pinned.{indexed_pinned}
use Rattle.coda_cache.proofs.Covered.{covered_pinned}
use Rattle.coda_cache.proofs.Under.{under_pinned}
use Rattle.coda_cache.proofs.cache.Cache.pin_of.Goals as goal

pub invariant_of-self : goal.invariant_of-self
invariant_of-self c =
    record {
      indexed =
          indexed_pinned c.self.inside.queued c.self.inside.dirty c.renew-2.new.self c.self.inside.contents c.pin_of.new.self c.args.volume c.args.dirty.now c.args.fids.now c.self.invariant.indexed
          (λ f is. c.requires f (ap (λ (s : CacheState). is_dirty s f) (sym c.self.view_is) ∙ is)) c.pin_of.ensures (λ passes h. c.renew-2.ensures _ (c.renew.ensures passes h));
      covered = covered_pinned c.self.inside.sources c.self.inside.contents c.pin_of.new.self c.args.volume c.args.fids.now c.pin_of.ensures c.self.invariant.covered;
      under = under_pinned c.self.inside.children c.self.inside.contents c.pin_of.new.self c.args.volume c.args.fids.now c.pin_of.ensures c.self.invariant.under;
    }
