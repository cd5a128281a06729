use Rattle.std.proofs.Common.{sym, ap, ◌∙◌}
use Rattle.std.specs.FinMap as map
use Rattle.coda_tree.specs.Volume.{Nodes}
use Rattle.coda_tree.proofs.Keyed.{get_keyed, keyed_taken_out}
use Rattle.coda_tree.proofs.nodes.NodeMap.take_out.Goals as goal

pub returns-clause-nodes : goal.returns-clause-nodes
returns-clause-nodes c = keyed_taken_out c.self.inside.nodes.entries c.remove.new.self.entries c.args.fid c.remove.ensures.updates.0 ∙ ap (λ (m : Nodes). map.remove m c.args.fid) c.self.view_is

pub returns-clause-was : goal.returns-clause-was
returns-clause-was c = c.remove.ensures.value ∙ sym (get_keyed c.self.inside.nodes.entries c.args.fid) ∙ ap (λ (m : Nodes). map.get m c.args.fid) c.self.view_is
