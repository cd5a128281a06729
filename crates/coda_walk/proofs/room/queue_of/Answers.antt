use Rattle.std.proofs.Common.{take, None, false, sym, subst}
use Rattle.std.proofs.lemmas.List.{take_more}
use Rattle.std.proofs.lemmas.Bool.{OnTrue_at, both_ways}
use Rattle.coda_walk.proofs.Once.{none_before}
use Rattle.coda_walk.specs.declared.item.Item.{Item}
use Rattle.coda_walk.specs.Queue.{IsQueueOf}
use Rattle.coda_walk.proofs.room.queue_of.Goals as goal

abbrev nothing : Item
nothing = record { fid = record { volume = 0; vnode = 0; uniq = 0 }; parent = None; priority = 0; blocks = 0; cached = false; served = false; pinned = false }

pub loop-item-preserved : goal.loop-item-preserved
loop-item-preserved c =
    let next = c.in_ok-put_new.ensures.there (take c.loop-item.item-index c.args.items.now) c.loop-item.invariant in
    subst (IsQueueOf c.put_new.new.queue) (sym (take_more c.args.items.now c.loop-item.item-index nothing c.loop-item-test.true)) (OnTrue_at c.if-not-branch.false next)

pub returns-then-not-branch-clause-once : goal.returns-then-not-branch-clause-once
returns-then-not-branch-clause-once c once =
    absurd (both_ways _ c.if-not-branch.true (c.in_ok-put_new.ensures.new (take c.loop-item.item-index c.args.items.now) c.loop-item.invariant (none_before c.args.items.now c.loop-item.item-index nothing c.loop-item-test.true once)))
