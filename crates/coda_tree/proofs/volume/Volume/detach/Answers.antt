use Rattle.std.proofs.Common.{◌≡◌, sym, ap, ◌∙◌, subst}
use Rattle.std.proofs.lemmas.Option.{same_Some}
use Rattle.coda_fid.specs.declared.fid.Fid.{Fid}
use Rattle.coda_tree.specs.Volume.{Tree, Nodes, detached}
use Rattle.coda_tree.specs.Slots.{Slotted, purged, IsWhole}
use Rattle.coda_tree.specs.SlotEdits.{slots_detached}
use Rattle.coda_tree.specs.Volumes.{seen}
use Rattle.coda_tree.proofs.SlotMap.{nodes_purged}
use Rattle.coda_tree.proofs.KeptSlots.{whole_detached, nodes_detached}
use Rattle.coda_tree.proofs.volume.Volume.detach.Goals as goal

pub invariant_of-self : goal.invariant_of-self
invariant_of-self c =
    let is = c.purge.ensures ∙ ap (λ (b : Slotted). let r : Slotted = record { number = b.number; slots = purged b.slots c.in-Some.fid } in r) c.detach.ensures.slots in
    subst (λ (b : Slotted). IsWhole b.slots) (sym is) (whole_detached c.self.inside.body.slots c.self.invariant c.args.dir c.args.name.now c.in-Some.fid)

pub returns-in-Some : goal.returns-in-Some
returns-in-Some c f is =
    let s = c.self.inside.body.slots in
    let same : c.in-Some.fid ≡ f = same_Some c.in-Some.fid f (c.in-Some.ensures ∙ is) in
    let whole : Nodes → Tree = λ m. record { number = c.self.inside.body.number; nodes = m } in
    let left = c.purge.ensures ∙ ap (λ (b : Slotted). let r : Slotted = record { number = b.number; slots = purged b.slots c.in-Some.fid } in r) c.detach.ensures.slots in
    ap seen left ∙ ap whole (nodes_purged (slots_detached s c.args.dir c.args.name.now c.in-Some.fid) c.in-Some.fid ∙ nodes_detached s c.args.dir c.args.name.now c.in-Some.fid)
    ∙ ap (λ (t : Tree). let r : Tree = record { number = t.number; nodes = detached t.nodes c.args.dir c.args.name.now c.in-Some.fid } in r) c.self.view_is
    ∙ ap (λ (g : Fid). let r : Tree = record { number = c.args.self.now.number; nodes = detached c.args.self.now.nodes c.args.dir c.args.name.now g } in r) same
