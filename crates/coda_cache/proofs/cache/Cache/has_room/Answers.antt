use Rattle.std.proofs.Common.{◌≡◌, ◌+◌, ◌≤◌, true, false, [], refl, sym, ap, ◌∙◌, arith}
use Rattle.std.specs.Prelude.{Ok}
use Rattle.std.specs.Bool.{OnTrue}
use Rattle.coda_cache.specs.State.{CacheState}
use Rattle.coda_cache.specs.Room.{evicted_for}
use Rattle.coda_cache.specs.Indexed.{standing_of, standings}
use Rattle.coda_cache.proofs.Summed.{fresh_items}
use Rattle.coda_cache.proofs.Chosen.{none_goes}
use Rattle.coda_cache.proofs.cache.Cache.has_room.Goals as goal

pub returns-in-Some : goal.returns-in-Some
returns-in-Some c parent keep =
    (elim c.has_room.result as (λ b. OnTrue b (c.in-Some.total + c.saturating_sub.result ≤ c.size.result) → OnTrue b (evicted_for c.args.self.now c.args.fid parent c.args.blocks keep ≡ Ok [])) [
      | true ↦ λ room.
          let in_order = c.in-Some.ensures.rises (standings c.self.inside.contents) c.self.invariant.indexed.queue in
          let total = c.in-Some.ensures.sum (standings c.self.inside.contents) c.self.invariant.indexed.queue in
          let fresh = fresh_items in_order.0 (standing_of c.self.inside.contents) (λ g. refl) c.self.inside.contents.recency in_order.1 in
          let size = c.size.ensures in
          let more = c.saturating_sub.ensures in
          let old = c.blocks-in-Some.ensures in
          sym (ap (λ (s : CacheState). evicted_for s c.args.fid parent c.args.blocks keep) c.self.view_is)
          ∙ none_goes c.self.inside.contents c.agree.ensures fresh c.args.fid parent c.args.blocks keep (omega (arith, room, total, size, more, old))
      | false ↦ λ h. h
    ]) c.has_room.ensures
