use Rattle.std.proofs.Common.{IsSomeAnd, sym, subst}
use Rattle.std.specs.FinMap as map
use Rattle.coda_tree.specs.declared.node.Node.{Node}
use Rattle.coda_tree.specs.Volume.{BindsAsMuch}
use Rattle.coda_tree.specs.Slots.{Slots, Slotted, nodes_in}
use Rattle.coda_tree.specs.Keeping.{IsKeptIn}
use Rattle.coda_tree.proofs.KeptSlots.{kept_slots_set}
use Rattle.coda_tree.proofs.body.Body.set.Goals as goal

pub invariant_of-self : goal.invariant_of-self
invariant_of-self c =
    let may = subst (λ (b : Slotted). IsSomeAnd (map.get (nodes_in b.slots) c.args.fid) (λ (was : Node). BindsAsMuch was c.args.node)) (sym c.self.view_is) c.requires in
    subst (λ (s : Slots). IsKeptIn c.self.inside.number s) (sym c.set.ensures) (kept_slots_set c.self.inside.number c.self.inside.slots c.self.invariant c.args.fid c.args.node may)
