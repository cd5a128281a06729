use Rattle.std.proofs.Common.{sym, ap, ◌∙◌, subst}
use Rattle.coda_tree.specs.Volume.{Tree, Nodes}
use Rattle.coda_tree.specs.Slots.{Slotted, IsWhole}
use Rattle.coda_tree.specs.Volumes.{seen}
use Rattle.coda_tree.proofs.KeptSlots.{whole_fresh, nodes_fresh}
use Rattle.coda_tree.proofs.volume.Volume.new.Goals as goal

pub invariant_of-result : goal.invariant_of-result
invariant_of-result c = subst (λ (b : Slotted). IsWhole b.slots) (sym c.in_ok-body.ensures) (whole_fresh c.args.number)

pub returns : goal.returns
returns c = ap seen c.in_ok-body.ensures ∙ ap (λ (m : Nodes). let r : Tree = record { number = c.args.number; nodes = m } in r) (nodes_fresh c.args.number)
