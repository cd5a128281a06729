use Rattle.std.proofs.Common.{map, option_copied}
use Rattle.coda_resolve.specs.Missing.{is_missing}
use Rattle.coda_resolve.proofs.Collected.{one_more_passes}
use Rattle.coda_resolve.proofs.missing.with_log.Goals as goal

pub loop-index-preserved : goal.loop-index-preserved
loop-index-preserved c = one_more_passes (is_missing (map option_copied c.args.copies.now)) c.args.log.now c.loop-index.index c.in-Some.update.now _ _ _ c.in-Some.ensures c.loop-index.invariant c.in_ok-found.ensures
