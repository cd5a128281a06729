use Rattle.std.proofs.Common.{None, refl}
use Rattle.coda_walk.specs.Queue.{place_in, count_in, is_in}
use Rattle.coda_walk.proofs.Freed.{taken_out, keyed_without}
use Rattle.coda_walk.proofs.Queued.{keyed, one_taken}
use Rattle.coda_walk.proofs.queue.Queue.take.Goals as goal

pub returns-clause-items : goal.returns-clause-items
returns-clause-items c items q at =
    let self = c.args.self.now in
    let own = keyed (place_in self.places) (count_in self.children) self.clock self.total items q.queued in
    let hidden = c.hide.ensures (count_in self.children) own q.free in
    let exact = taken_out (place_in self.places) (count_in self.children) (is_in c.hide.new.free) (is_in c.hide.new.free) c.args.standing.item.fid (place_in c.take_place.new.places) None c.take_place.ensures refl hidden in
    let still = keyed_without (place_in self.places) (count_in self.children) (is_in c.hide.new.free) (is_in c.hide.new.free) c.args.standing.item.fid (place_in c.take_place.new.places) None c.take_place.ensures refl own in
    record {
      queued = one_taken (place_in self.places) (place_in c.take_place.new.places) (count_in self.children) (count_in c.take_child.new.children) self.clock self.total c.saturating_sub-self.result items c.args.standing q.queued at c.take_place.ensures c.in_ok-take_child.ensures.counts c.saturating_sub-self.ensures;
      free = c.in_ok-take_child.ensures.free still exact;
    }
