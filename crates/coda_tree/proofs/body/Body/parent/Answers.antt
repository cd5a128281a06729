use Rattle.std.proofs.Common.{ap, ◌∙◌}
use Rattle.coda_tree.specs.Volume.{parent_of}
use Rattle.coda_tree.specs.Slots.{Slotted, nodes_in, parent_in}
use Rattle.coda_tree.proofs.KeptParents.{kept_is_parent}
use Rattle.coda_tree.proofs.body.Body.parent.Goals as goal

pub returns : goal.returns
returns c = c.parent.ensures ∙ kept_is_parent (nodes_in c.self.inside.slots) (parent_in c.self.inside.slots) c.self.invariant c.args.fid ∙ ap (λ (b : Slotted). parent_of (nodes_in b.slots) c.args.fid) c.self.view_is
