use Rattle.std.proofs.Common.{◌++◌, [], ◌∷◌, sym, ap, ◌∙◌}
use Rattle.std.specs.BTreeMap as tree
use Rattle.std.specs.Ordering.{nat_cmp}
use Rattle.coda_cache.specs.State.{CacheState}
use Rattle.coda_venus.specs.Accepting.{is_mentioned}
use Rattle.coda_venus.specs.Caching.{log_mentions, listed_in, marked_by}
use Rattle.coda_venus.specs.Code.{volume_in}
use Rattle.coda_venus.proofs.Marked.{marked_same, marked_joined}
use Rattle.coda_venus.proofs.client.Client.mark_touched.Goals as goal

pub returns-in-Some-clause-cache : goal.returns-in-Some-clause-cache
returns-in-Some-clause-cache c =
    let old = c.args.self.now in
    let made = c.mark_all.new.self in
    let dir = c.in-Some.dir in
    c.mark_all-in-Some.ensures.cache
    ∙ marked_same (log_mentions made) (log_mentions old) made.cache (dir ∷ []) (λ f. ap (λ l. is_mentioned (volume_in (tree.get nat_cmp l f.volume)) f) c.mark_all.ensures.rest.1)
    ∙ ap (λ (k : CacheState). marked_by (log_mentions old) k (dir ∷ [])) c.mark_all.ensures.cache ∙ sym (marked_joined (log_mentions old) old.cache c.args.mentioned.now (dir ∷ []))
    ∙ ap (λ o. marked_by (log_mentions old) old.cache (c.args.mentioned.now ++ listed_in o)) (sym c.in-Some.is)
