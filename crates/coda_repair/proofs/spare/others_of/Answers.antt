use Rattle.std.proofs.Common.{arith}
use Rattle.coda_resolve.specs.Counted.{has_fid}
use Rattle.coda_repair.proofs.Sparing.{out_none, out_more, out_all}
use Rattle.coda_repair.proofs.spare.others_of.Goals as goal

pub loop-index-init : goal.loop-index-init
loop-index-init c = out_none (has_fid c.args.subtree.now) c.args.top c.args.entries.now c.in_ok-others.others c.in_ok-others.ensures

pub loop-index-preserved : goal.loop-index-preserved
loop-index-preserved c = out_more (has_fid c.args.subtree.now) c.args.top c.args.entries.now c.loop-index.index c.in-Some.name.now c.in-Some.fid c.loop-index.others c.leave_out.new.others c.in-Some.ensures.pair c.leave_out.ensures c.loop-index.invariant

pub returns : goal.returns
returns c = out_all (has_fid c.args.subtree.now) c.args.top c.args.entries.now c.loop-index.index c.loop-index.others (let h = c.loop-index-test.false in let g = c.len-index-end.ensures in omega arith) c.loop-index.invariant
