use Rattle.std.proofs.Common.{Some, List, sym, ap, ◌∙◌, subst}
use Rattle.coda_cache.specs.State.{CacheState}
use Rattle.coda_cache.specs.Steps.{put_all}
use Rattle.coda_cache.specs.Walking.{AreCached, AreCounted}
use Rattle.coda_cache.proofs.Walked.{Put, are_still_cached}
use Rattle.coda_cache.proofs.contents.Contents.put_each.Goals as goal

pub renew-requires-clause-held : goal.renew-requires-clause-held
renew-requires-clause-held c = (subst (λ (l : List Put). AreCached c.loop-put.self l) c.in-Some.ensures.steps.0 c.loop-put.invariant.cached).0

pub renew-requires-clause-small : goal.renew-requires-clause-small
renew-requires-clause-small c = (subst (λ (l : List Put). AreCounted l) c.in-Some.ensures.steps.0 c.loop-put.invariant.small).0

pub loop-put-preserved : goal.loop-put-preserved
loop-put-preserved c =
    let put = c.in-Some.put in
    let rest = c.next.new.self.rest.items in
    let new = c.renew.ensures put.1 in
    let cached = subst (λ (l : List Put). AreCached c.loop-put.self l) c.in-Some.ensures.steps.0 c.loop-put.invariant.cached in
    let small = subst (λ (l : List Put). AreCounted l) c.in-Some.ensures.steps.0 c.loop-put.invariant.small in
    record {
      puts = ap (λ (s : CacheState). put_all s rest) new ∙ sym (ap (λ (l : List Put). put_all c.loop-put.self l) c.in-Some.ensures.steps.0) ∙ c.loop-put.invariant.puts;
      cached = subst (λ (s : CacheState). AreCached s rest) (sym new) (are_still_cached c.loop-put.self put.0 put.1 put.2 (Some put.3) rest cached.1);
      small = small.1;
    }
