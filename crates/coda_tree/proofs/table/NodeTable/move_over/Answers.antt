use Rattle.std.proofs.Common.{Option, sym, subst}
use Rattle.coda_fid.specs.declared.fid.Fid.{Fid}
use Rattle.coda_tree.specs.Volume.{Nodes, child, IsDirAt}
use Rattle.coda_tree.specs.Binders.{after_leave, after_move, Notes, AreBinders}
use Rattle.coda_tree.proofs.TableBinders.{moved_over_true}
use Rattle.coda_tree.proofs.table.NodeTable.move_over.Goals as goal

pub invariant_of-self : goal.invariant_of-self
invariant_of-self c =
    let b = c.self.inside.binders in
    let first = subst (λ (o : Option Fid). Notes b c.leave.new.self (after_leave o)) c.child-over.ensures c.leave.ensures in
    let next = subst (λ (o : Option Fid). Notes c.leave.new.self c.move_to.new.self (after_move o c.args.fid c.args.to)) c.child_elsewhere-was.ensures c.move_to.ensures in
    subst (λ (m : Nodes). AreBinders (child m) c.move_to.new.self) (sym c.move_over.ensures)
    (moved_over_true c.self.inside.nodes c.args.from c.args.name.now c.args.to c.args.new.now c.args.fid b c.leave.new.self c.move_to.new.self
    (subst (λ (m : Nodes). IsDirAt m c.args.to) (sym c.self.view_is) c.requires.to_there) c.self.invariant first next)
