use Rattle.std.proofs.Common.{sym, ap, ◌∙◌, subst}
use Rattle.std.specs.FinMap as map
use Rattle.coda_tree.specs.Volume.{Tree, Nodes, added, IsDirAt}
use Rattle.coda_tree.specs.Slots.{Slotted, IsWhole}
use Rattle.coda_tree.specs.Volumes.{seen}
use Rattle.coda_tree.proofs.KeptSlots.{whole_added, nodes_added}
use Rattle.coda_tree.proofs.volume.Volume.add.Goals as goal

pub invariant_of-self-2 : goal.invariant_of-self-2
invariant_of-self-2 c = subst (λ (b : Slotted). IsWhole b.slots) (sym c.in_ok-add.ensures.ok) (whole_added c.self.inside.body.slots c.self.invariant c.args.dir c.args.name c.args.fid c.args.node)

pub returns-clause-ok : goal.returns-clause-ok
returns-clause-ok c =
    let s = c.self.inside.body.slots in
    let whole : Nodes → Tree = λ m. record { number = c.self.inside.body.number; nodes = m } in
    let dir_there = subst (λ (t : Tree). IsDirAt t.nodes c.args.dir) (sym c.self.view_is) c.requires.dir_there in
    let free = ap (λ (t : Tree). map.get t.nodes c.args.fid) c.self.view_is ∙ c.requires.fid_free in
    ap seen c.in_ok-add.ensures.ok ∙ ap whole (nodes_added s c.args.dir c.args.name c.args.fid c.args.node dir_there free)
    ∙ ap (λ (t : Tree). let r : Tree = record { number = t.number; nodes = added t.nodes c.args.dir c.args.name c.args.fid c.args.node } in r) c.self.view_is
