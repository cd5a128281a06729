use Rattle.std.proofs.Common.{arith, sym, ap}
use Rattle.std.specs.declared.cmp.Ordering.TheVariants.{Equal, Greater}
use Rattle.std.specs.Ordering.{is_lt}
use Rattle.std.proofs.lemmas.Bool.{true≢false}
use Rattle.coda_resolve.proofs.Sorted.{in_order_by, out_of_order, below_next}
use Rattle.coda_resolve.proofs.view.is_in_order.Goals as goal

pub loop-at-preserved : goal.loop-at-preserved
loop-at-preserved c = below_next c.args.items.now c.loop-at.at c.index-items-at.result c.index-items-at-in-loop-at.result c.in-Less.ensures c.loop-at.auto.at c.loop-at-test.true c.loop-at.invariant

pub returns-in-Equal : goal.returns-in-Equal
returns-in-Equal c = out_of_order c.args.items.now c.loop-at.at c.index-items-at.result c.index-items-at-in-loop-at.result Equal c.in-Equal.ensures (λ e. true≢false (sym (ap is_lt e))) c.loop-at.auto.at c.loop-at-test.true

pub returns-in-Greater : goal.returns-in-Greater
returns-in-Greater c = out_of_order c.args.items.now c.loop-at.at c.index-items-at.result c.index-items-at-in-loop-at.result Greater c.in-Greater.ensures (λ e. true≢false (sym (ap is_lt e))) c.loop-at.auto.at c.loop-at-test.true

pub returns : goal.returns
returns c = sym (in_order_by c.args.items.now (λ j d lt. c.loop-at.invariant j d (let h = c.loop-at-test.false in omega arith)))
