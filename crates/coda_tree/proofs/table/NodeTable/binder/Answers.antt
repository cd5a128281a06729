use Rattle.std.proofs.Common.{sym, ap, ◌∙◌, subst}
use Rattle.coda_tree.specs.Volume.{Nodes, child, parent_of}
use Rattle.coda_tree.specs.Binders.{IsTrueOf}
use Rattle.coda_tree.proofs.TableBinders.{nowhere_none, once_first}
use Rattle.coda_tree.proofs.table.NodeTable.binder.Goals as goal

pub returns-in-Nowhere : goal.returns-in-Nowhere
returns-in-Nowhere c =
    nowhere_none c.self.inside.nodes c.args.fid (subst (IsTrueOf (child c.self.inside.nodes) c.args.fid) (sym c.get.ensures ∙ c.in-Nowhere.is) (c.self.invariant c.args.fid))
    ∙ ap (λ (m : Nodes). parent_of m c.args.fid) c.self.view_is

pub returns-in-Once : goal.returns-in-Once
returns-in-Once c =
    once_first c.self.inside.nodes c.args.fid c.in-Once.dir (subst (IsTrueOf (child c.self.inside.nodes) c.args.fid) (sym c.get.ensures ∙ c.in-Once.is) (c.self.invariant c.args.fid))
    ∙ ap (λ (m : Nodes). parent_of m c.args.fid) c.self.view_is
