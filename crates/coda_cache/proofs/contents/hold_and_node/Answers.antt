use Rattle.std.proofs.Common.{ap, ◌∙◌}
use Rattle.std.specs.FinMap as map
use Rattle.coda_fid.proofs.Fids.{fids_total, exact_fids}
use Rattle.coda_tree.proofs.Order.{insert_removed}
use Rattle.coda_cache.specs.State.{Holds}
use Rattle.coda_cache.proofs.contents.hold_and_node.Goals as goal

pub returns-in-Err-clause-err : goal.returns-in-Err-clause-err
returns-in-Err-clause-err c = (
  c.take_out.ensures ∙ ap (λ (m : Holds). map.remove m c.args.fid) c.in_ok-put.ensures.ok ∙ insert_removed fids_total exact_fids c.args.holds.now c.args.fid c.args.hold c.requires.free,
  c.in-Err.ensures.err,
)
