use Rattle.std.proofs.Common.{◌≡◌, refl, ◌∙◌}
use Rattle.std.specs.Prelude as prelude
use Rattle.std.specs.Prelude.{Ok, Err, IfOk}
use Rattle.std.specs.List.{filter}
use Rattle.coda_walk.specs.Going.{is_listed}
use Rattle.coda_walk.specs.Queue.{time_of}
use Rattle.coda_cache.specs.declared.by_use.Use.{Use}
use Rattle.coda_cache.specs.Indexed.{standing_of}
use Rattle.coda_cache.proofs.ByUse.{by_use}
use Rattle.coda_cache.proofs.by_use.in_order.Goals as goal

pub returns : goal.returns
returns c =
    (elim c.fids_of.result as (λ r. IfOk r (λ v. v.items ≡ prelude.map (λ (u : Use). u.fid) c.in_ok-uses.uses.keys) → IfOk r (λ v. v.items ≡ filter (is_listed c.args.fids.now) c.args.contents.now.recency)) [
      | Ok v ↦ λ is. is
          ∙ by_use (time_of c.args.queue.now) (standing_of c.args.contents.now) (λ g. refl) c.args.contents.now.recency c.args.fids.now c.requires.queue.queued.rises c.requires.cached c.in_ok-uses.uses.keys c.fids_of.ensures.ordered c.in_ok-uses.ensures
      | Err e ↦ λ h. h
    ]) c.fids_of.ensures.fids
