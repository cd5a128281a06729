use Rattle.std.proofs.Common.{◌≡◌, Bool, true, false, cond, List, refl, sym, ap, ◌∙◌, subst}
use Rattle.std.specs.Prelude.{if◌then◌else◌}
use Rattle.coda_fid.specs.declared.fid.Fid.{Fid}
use Rattle.coda_cache.specs.Keeping.{Agree, cache_of}
use Rattle.coda_cache.specs.State.{CacheState, is_cached}
use Rattle.coda_cache.specs.Steps.{used}
use Rattle.coda_cache.specs.Uses.{latest}
use Rattle.coda_cache.proofs.Agreeing.{agree_touched}
use Rattle.coda_cache.proofs.contents.Contents.touch.Goals as goal

pub invariant_of-self : goal.invariant_of-self
invariant_of-self c =
    record {
      agree = subst (λ (r : List Fid). Agree c.self.inside.nodes c.self.inside.holds r) (sym c.touch_if_there.ensures.used)
          (agree_touched c.self.inside.nodes c.self.inside.holds c.self.inside.recency c.self.invariant.agree c.args.fid);
      small = c.self.invariant.small;
    }

pub returns-clause-there : goal.returns-clause-there
returns-clause-there c = c.touch_if_there.ensures.there ∙ c.self.invariant.agree.used c.args.fid ∙ ap (λ (s : CacheState). is_cached s c.args.fid) c.self.view_is

-- the order of use is all that changes
either : (s : CacheState) (f : Fid) (b : Bool) → (record s { recency = cond b (latest s.recency f) s.recency }) ≡ (if b then record s { recency = latest s.recency f } else s)
either s f true = refl
either s f false = refl

pub returns-clause-used : goal.returns-clause-used
returns-clause-used c =
    let was : CacheState = cache_of c.self.inside in
    let recency = c.touch_if_there.ensures.used ∙ ap (λ b. cond b (latest was.recency c.args.fid) was.recency) (c.self.invariant.agree.used c.args.fid) in
    (λ i. record was { recency = recency i }) ∙ either was c.args.fid (is_cached was c.args.fid) ∙ ap (λ (s : CacheState). used s c.args.fid) c.self.view_is
