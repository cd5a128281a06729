use Rattle.std.proofs.Common.{Option, sym, ap, ◌∙◌, subst}
use Rattle.coda_fid.specs.declared.fid.Fid.{Fid}
use Rattle.coda_tree.specs.Volume.{Nodes, child, IsDirAt}
use Rattle.coda_tree.specs.Binders.{after_move, Notes, AreBinders}
use Rattle.coda_tree.proofs.TableBinders.{moved_true}
use Rattle.coda_tree.proofs.table.NodeTable.move_to.Goals as goal

pub invariant_of-self-2 : goal.invariant_of-self-2
invariant_of-self-2 c =
    let b = c.self.inside.binders in
    let notes = subst (λ (o : Option Fid). Notes b c.move_to-2.new.self (after_move o c.args.fid c.args.to)) c.child-was.ensures c.move_to-2.ensures in
    subst (λ (m : Nodes). AreBinders (child m) c.move_to-2.new.self) (sym c.in_ok-move_to.ensures.ok)
    (moved_true c.self.inside.nodes c.args.from c.args.name.now c.args.to c.args.new c.args.fid b c.move_to-2.new.self (subst (λ (m : Nodes). IsDirAt m c.args.to) (sym c.self.view_is) c.requires.to_there)
    (ap (λ (m : Nodes). child m c.args.to c.args.new) c.self.view_is ∙ c.requires.name_free) c.self.invariant notes)
