use Rattle.std.proofs.Common.{◌≡◌, true, List, refl, sym, ap, ◌∙◌, subst}
use Rattle.lru.specs.LruCache.{LruCache}
use Rattle.coda_fid.specs.declared.fid.Fid.{Fid}
use Rattle.coda_cache.specs.Uses.{latest, in_order}
use Rattle.coda_walk.specs.Going.{is_listed}
use Rattle.coda_cache.proofs.Uses.{same_turned, order_promoted}
use Rattle.coda_cache.proofs.recency.Recency.touch.Goals as goal

pub returns : goal.returns
returns c =
    ap (λ (u : LruCache Fid (Unit {0})). in_order u.entries) c.promote.ensures.entries
    ∙ order_promoted _ c.args.fid (λ g. same_turned c.args.fid g) _ (λ a b. refl) c.self.inside.used.entries c.len-count.ensures.valid.0
    (subst (λ (l : List Fid). is_listed l c.args.fid ≡ true) (sym c.self.view_is) c.requires)
    ∙ ap (λ (l : List Fid). latest l c.args.fid) c.self.view_is
