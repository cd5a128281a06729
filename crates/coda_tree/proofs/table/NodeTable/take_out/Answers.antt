use Rattle.std.proofs.Common.{Option, sym, ◌∙◌, subst}
use Rattle.coda_tree.specs.declared.node.Node.{Node}
use Rattle.coda_tree.specs.declared.binders.Change.TheVariants.{Less}
use Rattle.coda_tree.specs.Volume.{Nodes, child}
use Rattle.coda_tree.specs.Binders.{after_all, pairs_of, Notes, AreBinders}
use Rattle.coda_tree.proofs.TableBinders.{removed_true}
use Rattle.coda_tree.proofs.table.NodeTable.take_out.Goals as goal

pub invariant_of-self : goal.invariant_of-self
invariant_of-self c =
    let notes = subst (λ (o : Option Node). Notes c.self.inside.binders c.change_all.new.self (after_all Less (pairs_of o))) (c.as_ref.ensures.value ∙ c.take_out-was.ensures.was) c.change_all.ensures in
    subst (λ (m : Nodes). AreBinders (child m) c.change_all.new.self) (sym c.take_out-was.ensures.nodes)
    (removed_true c.self.inside.nodes c.args.fid c.self.inside.binders c.change_all.new.self c.self.invariant notes)
