use Rattle.std.proofs.Common.{◌≡◌, List, sym, ap, ◌∙◌}
use Rattle.std.specs.Prelude.{Ok, Err, IfOk}
use Rattle.std.specs.List.{filter}
use Rattle.coda_fid.specs.declared.fid.Fid.{Fid}
use Rattle.coda_walk.specs.Going.{is_listed}
use Rattle.coda_cache.specs.State.{CacheState}
use Rattle.coda_cache.specs.Ways.{at_or_below}
use Rattle.coda_cache.proofs.Down.{below_used, below_in_order}
use Rattle.coda_cache.proofs.cache.Cache.at_or_below.Goals as goal

pub in_order-requires-clause-cached : goal.in_order-requires-clause-cached
in_order-requires-clause-cached c = λ f e.
    ap (λ (s : CacheState). is_listed s.recency f) c.self.view_is
    ∙ below_used c.args.self.now c.args.fid f (sym (c.in_ok-below-in-Some.ensures f) ∙ sym (ap (λ (l : List Fid). is_listed l f) c.deref.ensures.value) ∙ e)

pub returns-in_ok-below-in-Some : goal.returns-in_ok-below-in-Some
returns-in_ok-below-in-Some c =
    (elim c.in_order.result as (λ r. IfOk r (λ v. v.items ≡ filter (is_listed c.deref.result.now) c.self.inside.contents.recency) → IfOk r (λ v. v.items ≡ at_or_below c.args.self.now c.args.fid)) [
      | Ok v ↦ λ is. is ∙ ap (λ (s : CacheState). filter (is_listed c.deref.result.now) s.recency) c.self.view_is
          ∙ below_in_order c.args.self.now c.args.fid c.deref.result.now (λ g. ap (λ (l : List Fid). is_listed l g) c.deref.ensures.value ∙ c.in_ok-below-in-Some.ensures g)
      | Err e ↦ λ h. h
    ]) c.in_order.ensures
