use Rattle.std.proofs.Common.{arith}
use Rattle.coda_lanes.proofs.Comparing.{one_part_more, same_parts}
use Rattle.coda_lanes.proofs.bytes.same_bytes.Goals as goal

pub loop-at-preserved : goal.loop-at-preserved
loop-at-preserved c = record {
  within = omega arith;
  long = c.if-a-b.false;
  same = one_part_more c.loop-at.at 32 c.args.a.now c.args.b.now c.loop-at.invariant.same (c.same_part.ensures.0 c.if-not-same_part.false);
}

pub returns : goal.returns
returns c = same_parts c.loop-at.at c.args.a.now c.args.b.now c.same_short.result c.loop-at.invariant.same c.same_short.ensures
