use Rattle.std.proofs.Common.{sym, ap, ◌∙◌}
use Rattle.std.specs.FinMap as map
use Rattle.coda_tree.specs.Volume.{Nodes}
use Rattle.coda_tree.proofs.TableMap.{len_nodes}
use Rattle.coda_tree.proofs.nodes.NodeMap.len.Goals as goal

pub returns : goal.returns
returns c = c.len.ensures.len ∙ sym (len_nodes c.self.inside.nodes.entries c.len.ensures.unique) ∙ ap (λ (m : Nodes). map.len m) c.self.view_is
