use Rattle.std.proofs.Common.{◌≡◌, sym, ap, ◌∙◌, subst}
use Rattle.std.proofs.lemmas.Option.{same_Some}
use Rattle.coda_fid.specs.declared.fid.Fid.{Fid}
use Rattle.coda_tree.specs.Volume.{Tree, Nodes, child, replaced, MayReplace}
use Rattle.coda_tree.specs.Slots.{Slotted, nodes_in, purged, IsWhole}
use Rattle.coda_tree.specs.SlotEdits.{slots_replaced}
use Rattle.coda_tree.specs.Volumes.{seen}
use Rattle.coda_tree.proofs.SlotMap.{nodes_purged}
use Rattle.coda_tree.proofs.KeptSlots.{whole_replaced, nodes_replaced, places_taken}
use Rattle.coda_tree.proofs.volume.Volume.replace.Goals as goal

pub invariant_of-self : goal.invariant_of-self
invariant_of-self c =
    let is = c.purge.ensures ∙ ap (λ (b : Slotted). let r : Slotted = record { number = b.number; slots = purged b.slots c.args.old } in r) c.replace.ensures.slots in
    subst (λ (b : Slotted). IsWhole b.slots) (sym is) (whole_replaced c.self.inside.body.slots c.self.invariant c.args.old c.args.from c.args.name.now c.args.to c.args.new.now c.in-Some.fid)

pub returns-in-Some : goal.returns-in-Some
returns-in-Some c f is =
    let s = c.self.inside.body.slots in
    let same : c.in-Some.fid ≡ f = same_Some c.in-Some.fid f (c.in-Some.ensures ∙ is) in
    let whole : Nodes → Tree = λ m. record { number = c.self.inside.body.number; nodes = m } in
    let was = ap (λ (t : Tree). child t.nodes c.args.from c.args.name.now) c.self.view_is ∙ sym c.in-Some.ensures in
    let may = subst (λ (t : Tree). MayReplace t.nodes c.args.old c.args.from c.args.name.now c.args.to c.args.new.now) (sym c.self.view_is) c.requires in
    let differ = subst (λ (g : Fid). (c.args.old ≡ g) → ⊥) (same_Some may.fid c.in-Some.fid (sym may.was ∙ was)) may.differ in
    let left = c.purge.ensures ∙ ap (λ (b : Slotted). let r : Slotted = record { number = b.number; slots = purged b.slots c.args.old } in r) c.replace.ensures.slots in
    ap seen left
    ∙ ap whole (nodes_purged (slots_replaced s c.args.old c.args.from c.args.name.now c.args.to c.args.new.now c.in-Some.fid) c.args.old
    ∙ nodes_replaced s c.args.old c.args.from c.args.name.now c.args.to c.args.new.now c.in-Some.fid (places_taken (nodes_in s) c.args.from c.args.name.now c.args.to c.args.new.now c.in-Some.fid c.args.old was may.had differ))
    ∙ ap (λ (t : Tree). let r : Tree = record { number = t.number; nodes = replaced t.nodes c.args.old c.args.from c.args.name.now c.args.to c.args.new.now c.in-Some.fid } in r) c.self.view_is
    ∙ ap (λ (g : Fid). let r : Tree = record { number = c.args.self.now.number; nodes = replaced c.args.self.now.nodes c.args.old c.args.from c.args.name.now c.args.to c.args.new.now g } in r) same
