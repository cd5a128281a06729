use Rattle.std.proofs.Common.{◌≡◌, ◌+◌, ◌<◌, ◌++◌, [], sym, subst, arith, rules}
use Rattle.coda_walk.specs.Going.{without}
use Rattle.coda_walk.specs.Queue.{IsQueueOf}
use Rattle.coda_walk.proofs.Puts.{absent, gone_item, before_clock, ticked}
use Rattle.coda_walk.proofs.queue.Queue.put.Goals as goal

pub returns : goal.returns
returns c items q =
    let mid = c.take_out.new.self in
    let rest = c.in_ok-take_out.ensures items q in
    let next : c.in_ok-self.field-0 ≡ mid.clock + 1 = search rules in
    let none = absent mid (without c.args.item.fid items) c.args.item.fid rest (gone_item items c.args.item.fid) in
    let stands = ticked mid (without c.args.item.fid items) rest in
    let l = without c.args.item.fid items in
    let ticks : IsQueueOf (record mid { clock = c.in_ok-self.field-0 }) (l ++ []) = subst (λ n. IsQueueOf (record mid { clock = n }) (l ++ [])) (sym next) stands in
    let early : mid.clock < c.in_ok-self.field-0 = omega (arith, next) in
    c.in_ok-add.ensures l [] ticks (before_clock mid l rest) none early
