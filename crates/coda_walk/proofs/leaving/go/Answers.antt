use Rattle.std.proofs.Common.{◌≡◌, ◌&&◌, ◌||◌, Bool, true, false, refl, ap, ◌∙◌}
use Rattle.coda_walk.specs.Queue.{place_in, is_in}
use Rattle.coda_walk.specs.Leaving.{is_after, remaining, frees_under}
use Rattle.coda_walk.proofs.leaving.go.Goals as goal

swap : (x y z : Bool) → (x || (y || z)) ≡ (y || (x || z))
swap true true z = refl
swap true false z = refl
swap false y z = refl

swapped : (old new more_old more_new one : Bool) → new ≡ old → more_new ≡ (one || more_old) → (new || more_new) ≡ (one || (old || more_old))
swapped old new more_old more_new one e f = ap (λ b. b || more_new) e ∙ ap (λ b. old || b) f ∙ swap old one more_old

pub returns-clause-pool : goal.returns-clause-pool
returns-clause-pool c r =
    let rest = c.in_ok-go_from.ensures.rest in
    let free = is_in c.args.queue.now.free r in
    let same : (free && is_after c.go_from.new.leaving.pool.after r) ≡ (free && is_after c.args.leaving.now.pool.after r) = ap (λ a. free && is_after a r) rest.1 in
    swapped _ _ (is_in c.args.leaving.now.pool.more r) _ (frees_under (place_in c.args.queue.now.places) c.args.item.now.parent (remaining c.args.queue.now.children c.go_from.new.leaving.fewer) r) same (c.in_ok-go_from.ensures.more r)
