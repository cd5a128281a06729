use Rattle.std.proofs.Common.{Some, None, sym, ◌∙◌, subst}
use Rattle.std.specs.FinMap as map
use Rattle.coda_tree.specs.declared.node.Node.{Node}
use Rattle.coda_tree.specs.declared.slot.Held.{Held}
use Rattle.coda_tree.specs.Slots.{Slots}
use Rattle.coda_tree.specs.Keeping.{IsKeptIn}
use Rattle.coda_tree.proofs.KeptSlots.{kept_fresh}
use Rattle.coda_tree.proofs.body.Body.new.Goals as goal

held_root : Node → Held
held_root node = record { node = node; parent = None }

pub invariant_of-result : goal.invariant_of-result
invariant_of-result c =
    let is = c.in_ok-put.ensures.ok ∙ (λ i. map.insert (c.new-slots.ensures i) (c.root.ensures i) (Some (record { node = c.root_node.ensures i; parent = None }))) in
    subst (λ (s : Slots). IsKeptIn c.args.number s) (sym is) (kept_fresh c.args.number)
