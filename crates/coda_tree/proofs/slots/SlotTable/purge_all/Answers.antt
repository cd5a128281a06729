use Rattle.std.proofs.Common.{sym, ap, ◌∙◌, List}
use Rattle.coda_tree.specs.declared.undo.Undo.{Undo}
use Rattle.coda_tree.specs.Slots.{Slots}
use Rattle.coda_tree.specs.Undoing.{purged_all}
use Rattle.coda_tree.proofs.UndoneAll.{purged_push}
use Rattle.coda_tree.proofs.slots.SlotTable.purge_all.Goals as goal

pub loop-undo-preserved : goal.loop-undo-preserved
loop-undo-preserved c =
    let s = c.loop-undo.self in
    let us = c.pop.new.self.items in
    ap (λ (t : Slots). purged_all t us) c.purge_after.ensures ∙ sym (purged_push s us c.in-Some.undo) ∙ sym (ap (λ (l : List Undo). purged_all s l) c.in-Some.ensures.items) ∙ c.loop-undo.invariant
