use Rattle.std.proofs.Common.{◌≡◌, ◌&&◌, ap, ◌∙◌}
use Rattle.std.specs.Prelude.{Ok, Err, IfOk}
use Rattle.coda_fid.specs.declared.fid.Fid.{Fid}
use Rattle.coda_walk.specs.Going.{is_listed}
use Rattle.coda_cache.specs.State.{CacheState, is_cached}
use Rattle.coda_cache.specs.Ways.{is_below, at_or_below}
use Rattle.coda_cache.proofs.Down.{down_below}
use Rattle.coda_cache.proofs.cache.Cache.below.Goals as goal

pub returns-in-Some : goal.returns-in-Some
returns-in-Some c =
    (elim c.below.result as (λ r. IfOk r (λ v. (f : Fid) → is_listed v.items f ≡ (is_below c.self.inside.contents f c.args.fid && is_cached c.self.inside.contents f)) →
    IfOk r (λ v. (f : Fid) → is_listed v.items f ≡ is_listed (at_or_below c.args.self.now c.args.fid) f)) [
      | Ok v ↦ λ h f. h f ∙ down_below c.self.inside.contents c.args.fid c.agree.ensures f ∙ ap (λ (s : CacheState). is_listed (at_or_below s c.args.fid) f) c.self.view_is
      | Err e ↦ λ h. h
    ]) c.below.ensures
