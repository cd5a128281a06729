use Rattle.std.proofs.Common.{◌≡◌, sym, ap, ◌∙◌, subst, inr}
use Rattle.std.specs.Prelude.{Ok, Err, MatchResult}
use Rattle.coda_cache.specs.declared.fault.CacheFault.TheVariants.{CacheFull}
use Rattle.coda_cache.specs.State.{CacheState}
use Rattle.coda_cache.specs.Room.{operated, evicted_between, evicted_after}
use Rattle.coda_cache.specs.Prospects.{Foresees}
use Rattle.coda_cache.proofs.cache.Cache.evict_after.Goals as goal

pub returns-in-Ok-clause-gone : goal.returns-in-Ok-clause-gone
unfolding evicted_after
returns-in-Ok-clause-gone c = λ client.
    let self = c.args.self.now in
    let n = operated self client c.args.volume c.args.rec.now c.args.mentioned.now in
    let is = subst (λ (s : CacheState). Foresees s client c.args.rec.now (operated s client c.args.volume c.args.rec.now c.args.mentioned.now) c.in_ok-prospect.prospect) c.self.view_is (c.in_ok-prospect.ensures client) in
    subst (λ r. MatchResult r (λ v. evicted_between self n c.args.looked_up.now ≡ Ok v.items) (λ e. evicted_between self n c.args.looked_up.now ≡ Err (CacheFull e.0 e.1 self.size))) c.in-Ok.is (c.in_ok-gone.ensures client n is)

pub returns-clause-causes : goal.returns-clause-causes
unfolding evicted_after
returns-clause-causes c = λ client.
    let self = c.args.self.now in
    let n = operated self client c.args.volume c.args.rec.now c.args.mentioned.now in
    let is = subst (λ (s : CacheState). Foresees s client c.args.rec.now (operated s client c.args.volume c.args.rec.now c.args.mentioned.now) c.in_ok-prospect.prospect) c.self.view_is (c.in_ok-prospect.ensures client) in
    let size : c.size.result ≡ self.size = c.size.ensures ∙ ap (λ (s : CacheState). s.size) c.self.view_is in
    inr (subst (λ r. MatchResult r (λ v. evicted_between self n c.args.looked_up.now ≡ Ok v.items) (λ e. evicted_between self n c.args.looked_up.now ≡ Err (CacheFull e.0 e.1 self.size))) c.in-Err.is (c.in_ok-gone.ensures client n is)
    ∙ ap (λ k. Err (CacheFull c.in-Err.pinned c.in-Err.needed k)) (sym size))
