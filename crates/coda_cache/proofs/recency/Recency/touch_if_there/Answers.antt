use Rattle.std.proofs.Common.{cond, List, refl, sym, ap, ◌∙◌}
use Rattle.std.specs.Map.{keys_of}
use Rattle.lru.specs.LruCache.{LruCache}
use Rattle.coda_fid.specs.declared.fid.Fid.{Fid}
use Rattle.coda_cache.specs.Uses.{latest, in_order}
use Rattle.coda_walk.specs.Going.{is_listed}
use Rattle.coda_cache.proofs.Uses.{same_turned, found, listed_reversed, order_touched}
use Rattle.coda_cache.proofs.recency.Recency.touch_if_there.Goals as goal

pub returns-clause-there : goal.returns-clause-there
returns-clause-there c = c.promote.ensures.value ∙ found _ c.args.fid (λ g. same_turned c.args.fid g) c.self.inside.used.entries
    ∙ sym (listed_reversed (keys_of c.self.inside.used.entries) c.args.fid) ∙ ap (λ (l : List Fid). is_listed l c.args.fid) c.self.view_is

pub returns-clause-used : goal.returns-clause-used
returns-clause-used c =
    ap (λ (u : LruCache Fid (Unit {0})). in_order u.entries) c.promote.ensures.entries
    ∙ order_touched _ c.args.fid (λ g. same_turned c.args.fid g) _ (λ a b. refl) c.self.inside.used.entries c.len-count.ensures.valid.0
    ∙ ap (λ (l : List Fid). cond (is_listed l c.args.fid) (latest l c.args.fid) l) c.self.view_is
