use Rattle.std.proofs.Common.{sym, ap, ◌∙◌, subst, List}
use Rattle.coda_tree.specs.declared.undo.Undo.{Undo}
use Rattle.coda_tree.specs.Slots.{Slots}
use Rattle.coda_tree.specs.Undoing.{MayUndoAll, undone_all}
use Rattle.coda_tree.proofs.UndoneAll.{undone_push, may_pop}
use Rattle.coda_tree.proofs.slots.SlotTable.undo_all.Goals as goal

pub undo-requires : goal.undo-requires
undo-requires c = (may_pop c.loop-undo.self c.pop.new.self.items c.in-Some.undo (subst (λ (us : List Undo). MayUndoAll c.loop-undo.self us) c.in-Some.ensures.items c.loop-undo.invariant.may)).0

pub loop-undo-preserved : goal.loop-undo-preserved
loop-undo-preserved c =
    let s = c.loop-undo.self in
    let us = c.pop.new.self.items in
    let may = may_pop s us c.in-Some.undo (subst (λ (l : List Undo). MayUndoAll s l) c.in-Some.ensures.items c.loop-undo.invariant.may) in
    record {
      may = subst (λ (t : Slots). MayUndoAll t us) (sym c.undo.ensures) may.1;
      rest = ap (λ (t : Slots). undone_all t us) c.undo.ensures ∙ sym (undone_push s us c.in-Some.undo) ∙ sym (ap (λ (l : List Undo). undone_all s l) c.in-Some.ensures.items) ∙ c.loop-undo.invariant.rest;
    }
