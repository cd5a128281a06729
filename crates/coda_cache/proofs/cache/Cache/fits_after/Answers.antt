use Rattle.std.proofs.Common.{◌≡◌, true, false, [], refl, sym, ap, ◌∙◌, subst, arith}
use Rattle.std.specs.Prelude.{Ok}
use Rattle.std.specs.Bool.{OnTrue}
use Rattle.coda_certify.specs.Replay.{MayApply}
use Rattle.coda_cache.specs.State.{CacheState}
use Rattle.coda_cache.specs.Room.{evicted_after}
use Rattle.coda_cache.specs.Indexed.{standing_of, standings}
use Rattle.coda_cache.proofs.Grown.{no_more, none_goes_surely}
use Rattle.coda_cache.proofs.Hashed.{keys_listed}
use Rattle.coda_cache.proofs.Summed.{fresh_items}
use Rattle.coda_cache.proofs.cache.Cache.fits_after.Goals as goal

pub returns-in_ok-more-in-Some : goal.returns-in_ok-more-in-Some
returns-in_ok-more-in-Some c = λ client volume mentioned looked_up.
    let contents = c.self.inside.contents in
    let in_order = c.in-Some.ensures.rises (standings contents) c.self.invariant.indexed.queue in
    let fresh = fresh_items in_order.0 (standing_of contents) (λ g. refl) contents.recency in_order.1 in
    let total = c.in-Some.ensures.sum (standings contents) c.self.invariant.indexed.queue in
    let more = c.in_ok-more-in-Some.ensures client in
    let size = c.size.ensures in
    (elim c.fits.result as (λ b. c.fits.result ≡ b → OnTrue b (evicted_after c.args.self.now client volume c.args.rec.now mentioned looked_up ≡ Ok [])) [
      | true ↦ λ fit.
          let room = no_more c.fits.result c.size.result c.in-Some.total c.in_ok-more-in-Some.more c.fits.ensures fit in
          sym (ap (λ (s : CacheState). evicted_after s client volume c.args.rec.now mentioned looked_up) c.self.view_is)
          ∙ none_goes_surely contents client volume c.args.rec.now mentioned c.agree.ensures fresh (subst (λ (s : CacheState). MayApply s.nodes c.args.rec.now.op) (sym c.self.view_is) c.requires)
          c.in_ok-touched-in-Some.touched.keys (λ f. sym (keys_listed c.in_ok-touched-in-Some.touched.keys f) ∙ c.in_ok-touched-in-Some.ensures f ∙ c.mentioned.ensures f) looked_up (omega (arith, room, total, more, size))
      | false ↦ λ _. tt
    ]) refl
