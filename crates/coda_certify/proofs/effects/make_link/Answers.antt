use Rattle.std.proofs.Common.{ap, ◌∙◌}
use Rattle.std.specs.FinMap as map
use Rattle.coda_fid.specs.Name.{name_cmp}
use Rattle.coda_tree.specs.declared.node.Node.{Node}
use Rattle.coda_tree.specs.Volume.{bindings}
use Rattle.coda_certify.proofs.effects.make_link.Goals as goal

pub returns-clause-leaf : goal.returns-clause-leaf
returns-clause-leaf c = λ n. ap (λ (x : Node). map.get (bindings x.kind) n) c.make.ensures ∙ map.get-empty name_cmp n
