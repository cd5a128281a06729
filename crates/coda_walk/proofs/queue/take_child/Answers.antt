use Rattle.std.proofs.Common.{◌≡◌, ◌-◌, sym, ap, ◌∙◌}
use Rattle.coda_walk.specs.Queue.{place_in, count_in, is_in, one_under}
use Rattle.coda_walk.proofs.Freed.{counted_but, one_less}
use Rattle.coda_walk.proofs.queue.take_child.Goals as goal

pub returns-in_ok-show-in-Some-clause-free : goal.returns-in_ok-show-in-Some-clause-free
returns-in_ok-show-in-Some-clause-free c keyed exact =
    let hidden = c.hide.ensures (count_in c.args.children.now) keyed exact in
    c.in_ok-show-in-Some.ensures keyed (counted_but (place_in c.args.places.now) (count_in c.args.children.now) (is_in c.hide.new.free) (is_in c.hide.new.free) c.in-Some.parent (count_in c.set_count.new.children) _ c.in_ok-set_count-in-Some.ensures hidden)

pub returns-in_ok-show-in-Some-clause-counts : goal.returns-in_ok-show-in-Some-clause-counts
returns-in_ok-show-in-Some-clause-counts c =
    let less : c.saturating_sub-less.result ≡ count_in c.args.children.now c.in-Some.parent - 1 = c.saturating_sub-less.ensures ∙ ap (λ n. n - 1) c.count.ensures in
    λ p. one_less (count_in c.args.children.now) (count_in c.set_count.new.children) c.in-Some.parent _ less c.in_ok-set_count-in-Some.ensures p ∙ ap (λ o. count_in c.args.children.now p - one_under o p) (sym c.in-Some.is)
