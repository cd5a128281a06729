use Rattle.coda_resolve.specs.Counted.{has_fid}
use Rattle.coda_resolve.specs.Views.{objects_of}
use Rattle.coda_repair.proofs.Repairs.{below_one}
use Rattle.coda_repair.proofs.record.repairs.Goals as goal

pub returns-clause-changes : goal.returns-clause-changes
returns-clause-changes c = record {
  subtree = has_fid c.in_ok-subtree.subtree.set;
  below = below_one (objects_of c.args.right.now) c.args.top c.in_ok-subtree.subtree.set c.in_ok-subtree.ensures.reached;
  each = c.in_ok-items.ensures.changes;
}
