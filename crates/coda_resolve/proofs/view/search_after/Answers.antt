use Rattle.std.proofs.Common.{◌+◌, ◌<◌, length, arith}
use Rattle.std.specs.declared.cmp.Ordering.TheVariants.{Less, Greater}
use Rattle.coda_resolve.proofs.Sorted.{compared, from_above, up_to}
use Rattle.coda_resolve.proofs.view.search_after.Goals as goal

pub search-requires-clause-between : goal.search-requires-clause-between
search-requires-clause-between c =
    let items = c.args.items.now in
    let at = c.loop-step.low + c.loop-step.step in
    let within : at < length items = let h = c.loop-step-test.true in omega arith in
    up_to items c.args.fid c.requires.order c.loop-step.low (length items) at c.loop-step.invariant (omega arith) within
    (compared items c.args.fid at c.index-items-at.result Greater within c.in-Greater.ensures)

pub loop-step-preserved : goal.loop-step-preserved
loop-step-preserved c =
    let items = c.args.items.now in
    let at = c.loop-step.low + c.loop-step.step in
    let within : at < length items = let h = c.loop-step-test.true in omega arith in
    from_above items c.args.fid c.requires.order c.loop-step.low (length items) at c.loop-step.invariant within
    (compared items c.args.fid at c.index-items-at.result Less within c.in-Less.ensures)
