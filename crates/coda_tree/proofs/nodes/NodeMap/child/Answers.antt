use Rattle.std.proofs.Common.{sym, ap, ◌∙◌, Option}
use Rattle.std.specs.FinMap as map
use Rattle.coda_fid.specs.Name.{name_cmp}
use Rattle.coda_tree.specs.declared.node.Node.{Node}
use Rattle.coda_tree.specs.declared.node.NodeKind.{NodeKind}
use Rattle.coda_tree.specs.Volume.{child_of, bindings}
use Rattle.coda_tree.proofs.nodes.NodeMap.child.Goals as goal

pub returns-in-File : goal.returns-in-File
returns-in-File c = sym (ap (λ (o : Option Node). child_of o c.args.name.now) (sym c.in-Some.ensures) ∙ ap (λ (k : NodeKind). map.get (bindings k) c.args.name.now) c.in-File.is ∙ map.get-empty name_cmp c.args.name.now)

pub returns-in-Link : goal.returns-in-Link
returns-in-Link c = sym (ap (λ (o : Option Node). child_of o c.args.name.now) (sym c.in-Some.ensures) ∙ ap (λ (k : NodeKind). map.get (bindings k) c.args.name.now) c.in-Link.is ∙ map.get-empty name_cmp c.args.name.now)
