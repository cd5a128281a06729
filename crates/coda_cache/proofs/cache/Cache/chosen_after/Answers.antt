use Rattle.std.proofs.Common.{◌≡◌, subst}
use Rattle.std.specs.Prelude.{Ok, Err, IfOk, MatchResult}
use Rattle.std.specs.Option.{IfSome}
use Rattle.coda_cache.specs.declared.fault.CacheFault.TheVariants.{CacheFull}
use Rattle.coda_cache.specs.State.{CacheState}
use Rattle.coda_cache.specs.Room.{evicted_between}
use Rattle.coda_cache.specs.Prospects.{Foresees}
use Rattle.coda_cache.proofs.cache.Cache.chosen_after.Goals as goal

pub returns-in-Some-fids : goal.returns-in-Some-fids
returns-in-Some-fids c = λ client n.
    subst (λ (s : CacheState). Foresees s client c.args.rec.now n c.args.prospect.now → IfOk c.chosen_ahead.result (λ o. IfSome o (λ r. MatchResult r (λ v. evicted_between s n c.args.looked_up.now ≡ Ok v.items) (λ e. evicted_between s n c.args.looked_up.now ≡ Err (CacheFull e.0 e.1 s.size)))))
    c.self.view_is (c.chosen_ahead.ensures client n)
