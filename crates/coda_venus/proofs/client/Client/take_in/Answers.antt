use Rattle.std.proofs.Common.{◌≡◌, Some, sym, ap, ◌∙◌}
use Rattle.std.specs.FinMap as map
use Rattle.coda_cache.specs.State.{CacheState}
use Rattle.coda_cache.specs.Steps.{kept_parent, dropped, marked}
use Rattle.coda_cache.specs.Uses.{except}
use Rattle.coda_venus.proofs.Installed.{put_dropped, fetched_kept}
use Rattle.coda_venus.proofs.client.Client.take_in.Goals as goal

pub returns-clause-cache : goal.returns-clause-cache
returns-clause-cache c =
    let old = c.args.self.now.cache in
    let a = c.args in
    let own : kept_parent (map.get old.holds a.fid) a.parent ≡ a.parent = ap (kept_parent (map.get old.holds a.fid)) c.requires ∙ fetched_kept old a.fid c.agree.ensures ∙ sym c.requires in
    let went = c.drop_but.ensures ∙ ap (λ (k : CacheState). dropped k (except a.gone.now a.fid)) c.in_ok-put.ensures.ok ∙ put_dropped old a.gone.now a.fid a.parent a.node (Some a.from) own in
    c.mark.ensures ∙ (λ i. marked (went i) a.fid (c.is_dirty-dirty.ensures i))
