use Rattle.std.proofs.Common.{sym, subst, ap, ◌∙◌}
use Rattle.coda_tree.specs.Volume.{Nodes, child, IsDirAt}
use Rattle.coda_tree.specs.Binders.{AreBinders}
use Rattle.coda_tree.proofs.TableBinders.{bound_true}
use Rattle.coda_tree.proofs.table.NodeTable.bind.Goals as goal

pub invariant_of-self-2 : goal.invariant_of-self-2
invariant_of-self-2 c =
    subst (λ (m : Nodes). AreBinders (child m) c.change.new.self) (sym c.in_ok-bind.ensures.ok)
    (bound_true c.self.inside.nodes c.args.dir c.args.name c.args.fid c.self.inside.binders c.change.new.self (subst (λ (m : Nodes). IsDirAt m c.args.dir) (sym c.self.view_is) c.requires.dir_there)
    (ap (λ (m : Nodes). child m c.args.dir c.args.name) c.self.view_is ∙ c.requires.name_free) c.self.invariant c.change.ensures)
