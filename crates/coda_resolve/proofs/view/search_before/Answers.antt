use Rattle.std.proofs.Common.{◌-◌, ◌<◌, length, arith}
use Rattle.std.specs.declared.cmp.Ordering.TheVariants.{Less, Equal, Greater}
use Rattle.coda_resolve.proofs.Sorted.{compared, from_above, up_to}
use Rattle.coda_resolve.proofs.view.search_before.Goals as goal

pub bounds-items-at : goal.bounds-items-at
bounds-items-at c = let h = c.loop-step-test.true in omega (arith, c.loop-step.invariant.in_range)

pub search-requires-clause-between : goal.search-requires-clause-between
search-requires-clause-between c =
    let items = c.args.items.now in
    let at = c.loop-step.high - 1 - c.loop-step.step in
    let h = c.loop-step-test.true in
    let within : at < length items = omega (arith, c.loop-step.invariant.in_range) in
    from_above items c.args.fid c.requires.order 0 c.loop-step.high at c.loop-step.invariant (omega arith)
    (compared items c.args.fid at c.index-items-at.result Less within c.in-Less.ensures)

pub returns-in-Equal-clause-found : goal.returns-in-Equal-clause-found
returns-in-Equal-clause-found c =
    let items = c.args.items.now in
    let at = c.loop-step.high - 1 - c.loop-step.step in
    let h = c.loop-step-test.true in
    let within : at < length items = omega (arith, c.loop-step.invariant.in_range) in
    record {
      in_range = within;
      has_fid = compared items c.args.fid at c.index-items-at.result Equal within c.in-Equal.ensures;
    }

pub loop-step-smaller : goal.loop-step-smaller
loop-step-smaller c = let h = c.loop-step-test.true in omega arith

pub loop-step-preserved : goal.loop-step-preserved
loop-step-preserved c =
    let items = c.args.items.now in
    let at = c.loop-step.high - 1 - c.loop-step.step in
    let h = c.loop-step-test.true in
    let within : at < length items = omega (arith, c.loop-step.invariant.in_range) in
    up_to items c.args.fid c.requires.order 0 c.loop-step.high at c.loop-step.invariant (omega arith) within
    (compared items c.args.fid at c.index-items-at.result Greater within c.in-Greater.ensures)
