use Rattle.std.proofs.Common.{arith}
use Rattle.std.specs.FinMap as finmap
use Rattle.coda_resolve.proofs.Sameness.{front_same, entries_same}
use Rattle.coda_resolve.proofs.same.same_entries.Goals as goal

pub loop-index-preserved : goal.loop-index-preserved
loop-index-preserved c = record {
  front = front_same (finmap.entries c.args.one.now) (finmap.entries c.args.other.now) c.loop-index.index c.if-not-same_at.ensures c.loop-index.invariant.front;
  long = c.loop-index.invariant.long;
}

pub returns : goal.returns
returns c = entries_same c.args.one.now c.args.other.now c.loop-index.index (let h = c.loop-index-test.false in let g = c.len-index-end.ensures in omega arith) c.loop-index.invariant.long c.loop-index.invariant.front
