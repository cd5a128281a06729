use Rattle.std.proofs.Common.{IsSome, sym, ap, ◌∙◌, subst}
use Rattle.std.specs.FinMap as map
use Rattle.coda_tree.specs.Volume.{Nodes, changed}
use Rattle.coda_tree.proofs.Changes.{changed_to}
use Rattle.coda_tree.proofs.TableMap.{nodes_changed}
use Rattle.coda_tree.proofs.nodes.NodeMap.set.Goals as goal

pub returns : goal.returns
returns c =
    nodes_changed c.self.inside.nodes.entries c.set.new.nodes.entries c.args.fid (λ _. c.args.node) c.set.ensures
    ∙ ap (λ (m : Nodes). changed m c.args.fid (λ _. c.args.node)) c.self.view_is
    ∙ changed_to _ c.args.fid c.args.node c.requires
