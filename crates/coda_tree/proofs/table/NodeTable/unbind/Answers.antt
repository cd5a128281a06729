use Rattle.std.proofs.Common.{Option, sym, subst}
use Rattle.coda_fid.specs.declared.fid.Fid.{Fid}
use Rattle.coda_tree.specs.Volume.{Nodes, child}
use Rattle.coda_tree.specs.Binders.{after_leave, Notes, AreBinders}
use Rattle.coda_tree.proofs.TableBinders.{unbound_true}
use Rattle.coda_tree.proofs.table.NodeTable.unbind.Goals as goal

pub invariant_of-self : goal.invariant_of-self
invariant_of-self c =
    let notes = subst (λ (o : Option Fid). Notes c.self.inside.binders c.leave.new.self (after_leave o)) c.child-was.ensures c.leave.ensures in
    subst (λ (m : Nodes). AreBinders (child m) c.leave.new.self) (sym c.unbind.ensures)
    (unbound_true c.self.inside.nodes c.args.dir c.args.name.now c.self.inside.binders c.leave.new.self c.self.invariant notes)
