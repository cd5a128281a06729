use Rattle.std.proofs.Common.{◌≡◌, List, sym, ap, ◌∙◌, subst}
use Rattle.coda_cache.specs.State.{CacheState}
use Rattle.coda_cache.specs.Keeping.{Agree}
use Rattle.coda_cache.specs.Steps.{put_all}
use Rattle.coda_cache.specs.Walking.{AreCached, begun_all}
use Rattle.coda_cache.proofs.Walked.{Put, all_cached, put_after_blanks}
use Rattle.coda_cache.proofs.contents.Contents.put_walk.Goals as goal

pub put_each-requires-clause-cached : goal.put_each-requires-clause-cached
put_each-requires-clause-cached c =
    subst (λ (s : CacheState). AreCached s c.args.nodes.items) (sym (c.in-Ok.ensures.ok ∙ ap (λ (l : List Put). begun_all c.args.self.now l) c.deref.ensures.value)) (all_cached c.args.self.now c.args.nodes.items)

pub returns-in-Ok-clause-ok : goal.returns-in-Ok-clause-ok
returns-in-Ok-clause-ok c =
    let agree = subst (λ (s : CacheState). Agree s.nodes s.holds s.recency) c.self.view_is c.self.invariant.agree in
    let puts : c.put_each.new.self ≡ put_all c.args.self.now c.args.nodes.items =
    c.put_each.ensures ∙ ap (λ (s : CacheState). put_all s c.args.nodes.items) (c.in-Ok.ensures.ok ∙ ap (λ (l : List Put). begun_all c.args.self.now l) c.deref.ensures.value)
    ∙ put_after_blanks c.args.self.now c.args.nodes.items agree in
    λ i. record ((c.self-in-Ok.view_is ∙ puts) i) { priorities = c.in_ok-priorities.ensures i }
