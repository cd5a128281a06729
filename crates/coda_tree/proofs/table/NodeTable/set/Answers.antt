use Rattle.std.proofs.Common.{Option, IsSome, sym, ap, ◌∙◌, subst}
use Rattle.std.specs.FinMap as map
use Rattle.coda_tree.specs.declared.node.Node.{Node}
use Rattle.coda_tree.specs.declared.binders.Change.TheVariants.{More, Less}
use Rattle.coda_tree.specs.Volume.{Nodes, child}
use Rattle.coda_tree.specs.Binders.{after_all, pairs_of, Notes, AreBinders}
use Rattle.coda_tree.proofs.TableBinders.{removed_true, put_true}
use Rattle.coda_tree.proofs.table.NodeTable.set.Goals as goal

pub invariant_of-self : goal.invariant_of-self
invariant_of-self c =
    let m = c.self.inside.nodes in
    let b = c.self.inside.binders in
    let left : Notes b c.change_all.new.self (after_all Less (pairs_of (map.get m c.args.fid))) =
    subst (λ (o : Option Node). Notes b c.change_all.new.self (after_all Less (pairs_of o))) c.get.ensures c.change_all.ensures in
    let come : Notes c.change_all.new.self c.change_all-2.new.self (after_all (More c.args.fid) (pairs_of (map.get (map.insert m c.args.fid c.args.node) c.args.fid))) =
    subst (λ (o : Option Node). Notes c.change_all.new.self c.change_all-2.new.self (after_all (More c.args.fid) (pairs_of o))) (c.get-2.ensures ∙ ap (λ (n : Nodes). map.get n c.args.fid) c.set.ensures) c.change_all-2.ensures in
    subst (λ (n : Nodes). AreBinders (child n) c.change_all-2.new.self) (sym c.set.ensures)
    (put_true m c.args.fid c.args.node c.change_all.new.self c.change_all-2.new.self (removed_true m c.args.fid b c.change_all.new.self c.self.invariant left) come)
