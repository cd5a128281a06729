use Rattle.std.proofs.Common.{refl, sym, subst}
use Rattle.coda_tree.specs.Volume.{Nodes, child, written, attrs_patch}
use Rattle.coda_tree.specs.Binders.{AreBinders}
use Rattle.coda_tree.proofs.TableBinders.{changed_true}
use Rattle.coda_tree.proofs.table.NodeTable.set_attributes.Goals as goal

pub invariant_of-self : goal.invariant_of-self
invariant_of-self c =
    subst (λ (m : Nodes). AreBinders (child m) c.self.inside.binders) (sym c.set_attributes.ensures)
    (changed_true c.self.inside.nodes c.args.fid (written (attrs_patch c.args.attrs.now) c.args.sid) c.self.inside.binders (λ _. refl) c.self.invariant)
