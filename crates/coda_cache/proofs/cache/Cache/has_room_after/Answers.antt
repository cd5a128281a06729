use Rattle.std.proofs.Common.{◌≡◌, true, false, [], refl, sym, ap, ◌∙◌, subst, arith}
use Rattle.std.specs.Prelude.{Ok}
use Rattle.std.specs.Bool.{OnTrue}
use Rattle.coda_cache.specs.State.{CacheState}
use Rattle.coda_cache.specs.Room.{evicted_between}
use Rattle.coda_cache.specs.Indexed.{standing_of, standings}
use Rattle.coda_cache.specs.Prospects.{Foresees}
use Rattle.coda_cache.proofs.Grown.{no_more, none_goes_after}
use Rattle.coda_cache.proofs.Summed.{fresh_items}
use Rattle.coda_cache.proofs.cache.Cache.has_room_after.Goals as goal

pub returns-in_ok-more-in-Some : goal.returns-in_ok-more-in-Some
returns-in_ok-more-in-Some c = λ client n looked_up is.
    let contents = c.self.inside.contents in
    let then = subst (λ (s : CacheState). Foresees s client c.args.rec.now n c.args.prospect.now) (sym c.self.view_is) is in
    let in_order = c.in-Some.ensures.rises (standings contents) c.self.invariant.indexed.queue in
    let fresh = fresh_items in_order.0 (standing_of contents) (λ g. refl) contents.recency in_order.1 in
    let total = c.in-Some.ensures.sum (standings contents) c.self.invariant.indexed.queue in
    let more = c.in_ok-more-in-Some.ensures.sum client n then in
    let size = c.size.ensures in
    (elim c.fits.result as (λ b. c.fits.result ≡ b → OnTrue b (evicted_between c.args.self.now n looked_up ≡ Ok [])) [
      | true ↦ λ fit.
          let room = no_more c.fits.result c.size.result c.in-Some.total c.in_ok-more-in-Some.more c.fits.ensures fit in
          sym (ap (λ (s : CacheState). evicted_between s n looked_up) c.self.view_is)
          ∙ none_goes_after contents client c.args.rec.now n c.args.prospect.now then c.agree.ensures fresh c.in_ok-more-in-Some.ensures.rise looked_up (omega (arith, room, total, more, size))
      | false ↦ λ _. tt
    ]) refl
