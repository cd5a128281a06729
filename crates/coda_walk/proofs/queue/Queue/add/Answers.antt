use Rattle.std.proofs.Common.{◌≡◌, ◌+◌, ◌++◌, Some, refl, rules}
use Rattle.coda_walk.specs.Queue.{place_in, count_in, is_in}
use Rattle.coda_walk.proofs.Freed.{put_hidden, keyed_with}
use Rattle.coda_walk.proofs.Queued.{keyed, one_put}
use Rattle.coda_walk.proofs.queue.Queue.add.Goals as goal

pub returns : goal.returns
returns c front back q fits free early =
    let self = c.args.self.now in
    let f = c.args.standing.item.fid in
    let own = keyed (place_in self.places) (count_in self.children) self.clock self.total (front ++ back) q.queued in
    let exact = c.in_ok-add_child.ensures.free own q.free in
    let hidden = put_hidden (place_in self.places) (count_in c.add_child.new.children) (is_in c.add_child.new.free) (is_in c.add_child.new.free) f (place_in c.put_place.new.places) (Some c.args.standing) c.in_ok-put_place.ensures free exact in
    let still = keyed_with (place_in self.places) (count_in c.add_child.new.children) (is_in c.add_child.new.free) (is_in c.add_child.new.free) f (place_in c.put_place.new.places) (Some c.args.standing) c.in_ok-put_place.ensures c.args.standing refl refl own in
    let more : c.in_ok-self.field-0 ≡ self.total + c.args.standing.item.blocks = search rules in
    record {
      queued = one_put (place_in self.places) (place_in c.put_place.new.places) (count_in self.children) (count_in c.add_child.new.children) self.clock self.total c.in_ok-self.field-0 front back c.args.standing q.queued fits free early c.in_ok-put_place.ensures c.in_ok-add_child.ensures.counts more;
      free = c.in_ok-show.ensures still hidden;
    }
