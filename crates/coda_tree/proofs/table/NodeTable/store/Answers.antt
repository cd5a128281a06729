use Rattle.std.proofs.Common.{sym, subst}
use Rattle.coda_tree.specs.Volume.{Nodes, child, written, content_patch}
use Rattle.coda_tree.specs.Binders.{AreBinders}
use Rattle.coda_tree.proofs.TableBinders.{changed_true, written_binds}
use Rattle.coda_tree.proofs.table.NodeTable.store.Goals as goal

pub invariant_of-self : goal.invariant_of-self
invariant_of-self c =
    subst (λ (m : Nodes). AreBinders (child m) c.self.inside.binders) (sym c.store.ensures)
    (changed_true c.self.inside.nodes c.args.fid (written (content_patch c.args.content c.args.mtime) c.args.sid) c.self.inside.binders (λ node. written_binds c.args.content node.kind) c.self.invariant)
