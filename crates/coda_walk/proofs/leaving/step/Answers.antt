use Rattle.std.proofs.Common.{◌≡◌, true, false, sym, ap, ◌∙◌}
use Rattle.std.specs.Prelude.{nat_le}
use Rattle.coda_walk.specs.Laws.{left}
use Rattle.coda_walk.specs.Queue.{place_in, count_in}
use Rattle.coda_walk.specs.Leaving.{remaining, pool_of}
use Rattle.coda_walk.proofs.Steps.{going_over}
use Rattle.coda_walk.proofs.Departs.{who_fits, who_none, none_next}
use Rattle.coda_walk.proofs.leaving.step.Goals as goal

pub returns-then-fit : goal.returns-then-fit
returns-then-fit c fids items q are turn =
    let fits : nat_le c.args.leaving.now.left c.args.size ≡ true = sym c.fit.ensures ∙ c.if-fit.true in
    record {
      all = going_over _ _ _ (who_fits c.args.size fids (left c.args.leaving.now.gone.items items) (ap (λ n. nat_le n c.args.size) (sym turn.stand.blocks) ∙ fits)) turn.turn;
      rest = turn.stand.blocks;
    }

pub returns-in_ok-go_at-in-Some : goal.returns-in_ok-go_at-in-Some
returns-in_ok-go_at-in-Some c fids items q are turn =
    let full : nat_le c.args.leaving.now.left c.args.size ≡ false = sym c.fit.ensures ∙ c.if-fit.false in
    c.in_ok-go_at-in-Some.ensures c.args.size fids items (pool_of c.args.queue.now c.args.leaving.now) q are full c.in-Some.ensures.some (record { stand = turn.stand; turn = turn.turn })

pub returns-in-None : goal.returns-in-None
returns-in-None c fids items q are turn =
    let queue = c.args.queue.now in
    let old = c.args.leaving.now in
    let none = none_next (place_in queue.places) (count_in queue.children) queue.clock queue.total items q.queued (pool_of queue old) (pool_of queue old) (remaining queue.children old.fewer) old.left old.gone.items fids turn.stand c.in-None.ensures.none in
    record {
      all = going_over _ _ _ (who_none c.args.size fids (left old.gone.items items) none) turn.turn;
      rest = turn.stand.blocks;
    }
