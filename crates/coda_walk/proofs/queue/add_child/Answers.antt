use Rattle.std.proofs.Common.{rules, ◌≡◌, ◌==◌, false}
use Rattle.std.proofs.lemmas.Result.{on_ok_weaker}
use Rattle.coda_walk.specs.Queue.{place_in, count_in, is_in}
use Rattle.coda_walk.proofs.Freed.{counted_up}
use Rattle.coda_walk.proofs.queue.add_child.Goals as goal

pub returns-in_ok-more-in-Some-clause-free : goal.returns-in_ok-more-in-Some-clause-free
returns-in_ok-more-in-Some-clause-free c keyed exact =
    let hidden = c.hide.ensures (count_in c.args.children.now) keyed exact in
    let more : (c.in_ok-more-in-Some.more == 0) ≡ false = search rules in
    on_ok_weaker c.set_count.result (λ h.
    counted_up (place_in c.args.places.now) (count_in c.args.children.now) (is_in c.hide.new.free) (is_in c.hide.new.free) c.in-Some.parent (count_in c.set_count.new.children) c.in_ok-more-in-Some.more h more hidden) c.set_count.ensures
