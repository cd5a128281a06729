use Rattle.std.proofs.Common.{◌∙◌, sym, arith}
use Rattle.coda_resolve.specs.Counted.{has_fid}
use Rattle.coda_repair.proofs.Sparing.{binds_here, none_more, none_all}
use Rattle.coda_repair.proofs.spare.binds_one.Goals as goal

pub returns-then-is_taken : goal.returns-then-is_taken
returns-then-is_taken c = sym (binds_here (has_fid c.args.subtree.now) c.args.top c.args.entries.now c.loop-index.index c.in-Some.field-0-0.now c.in-Some.fid c.in-Some.ensures.pair (sym c.is_taken.ensures ∙ c.if-is_taken.true))

pub loop-index-preserved : goal.loop-index-preserved
loop-index-preserved c = none_more (has_fid c.args.subtree.now) c.args.top c.args.entries.now c.loop-index.index c.in-Some.field-0-0.now c.in-Some.fid c.in-Some.ensures.pair (sym c.is_taken.ensures ∙ c.if-is_taken.false) c.loop-index.invariant

pub returns : goal.returns
returns c = none_all (has_fid c.args.subtree.now) c.args.top c.args.entries.now c.loop-index.index (let h = c.loop-index-test.false in let g = c.len-index-end.ensures in omega arith) c.loop-index.invariant
