use Rattle.std.proofs.Common.{sym, ap, ◌∙◌, ◌&&◌, not}
use Rattle.coda_walk.specs.Queue.{place_in, is_in, same_rank}
use Rattle.coda_walk.proofs.Freed.{hid}
use Rattle.coda_walk.proofs.queue.hide.Goals as goal

pub returns-in-Some : goal.returns-in-Some
returns-in-Some c = λ children keyed exact. hid (place_in c.args.places.now) children (is_in c.args.free.now) (is_in c.take_rank.new.free) c.args.fid c.in-Some.standing.now keyed (sym c.in-Some.ensures.value) exact
    (λ r. c.take_rank.ensures r ∙ ap (λ k. not (same_rank k r) && is_in c.args.free.now r) c.rank_of.ensures)
