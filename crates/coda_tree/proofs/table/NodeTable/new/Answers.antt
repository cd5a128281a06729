use Rattle.std.proofs.Common.{sym, subst}
use Rattle.coda_tree.specs.Volume.{Nodes, child}
use Rattle.coda_tree.specs.Binders.{AreBinders}
use Rattle.coda_tree.proofs.TableBinders.{nothing_bound}
use Rattle.coda_tree.proofs.table.NodeTable.new.Goals as goal

pub invariant_of-result : goal.invariant_of-result
invariant_of-result c = subst (λ (m : Nodes). AreBinders (child m) c.new-2.result) (sym c.new.ensures) (nothing_bound c.new-2.result c.new-2.ensures)
