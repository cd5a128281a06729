use Rattle.std.proofs.Common.{ap, ◌∙◌, ◌++◌, arith}
use Rattle.std.specs.List.{flat_map}
use Rattle.coda_values.specs.Held.{update}
use Rattle.coda_values.proofs.ListOf.{one_written, all_written}
use Rattle.coda_values.proofs.updates.put_all_updates.Goals as goal

pub loop-index-preserved : goal.loop-index-preserved
loop-index-preserved c = one_written (λ u. (update.piece u).bytes) c.args.log.now c.loop-index.index c.in-Some.update.now c.args.out.now.items c.loop-index.out.items c.put_update.new.out.items c.in-Some.ensures c.loop-index.invariant c.in_ok-put_update-in-Some.ensures

pub returns : goal.returns
returns c = all_written (λ u. (update.piece u).bytes) c.args.log.now c.loop-index.index c.args.out.now.items c.loop-index.out.items (omega (arith, c.loop-index-test.false, c.loop-index.auto.index-end, c.len-index-end.ensures.count)) c.loop-index.invariant
