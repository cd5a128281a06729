use Rattle.std.proofs.Common.{◌<◌, ◌+◌, ◌++◌, ◌∷◌, [], length, length-append, sym, ap, ◌∙◌, subst, arith}
use Rattle.coda_cancel.specs.Numbers.{AreBelow}
use Rattle.coda_cancel.specs.Shelved.{Shelved}
use Rattle.coda_cancel.specs.Slots.{kept_in, DoSlotsRise, is_last_kept, room_in}
use Rattle.coda_cancel.specs.declared.shelf.Slot.TheVariants.{Kept}
use Rattle.coda_cancel.proofs.Places.{kept_in-append, rising_pushed, last_pushed, fewer_kept}
use Rattle.coda_cancel.proofs.shelf.Shelf.push.Goals as goal

pub overflow_add-self : goal.overflow_add-self
overflow_add-self c = let few = fewer_kept c.self.inside.slots.items in omega (arith, few, c.self.invariant.counted)

pub invariant_of-self : goal.invariant_of-self
invariant_of-self c =
    let ss = c.self.inside.slots.items in
    let room : 0 < room_in c.self.inside = subst (λ (s : Shelved). 0 < s.room) (sym c.self.view_is) c.requires.room in
    record {
      rising = subst DoSlotsRise (sym c.push_reserved.ensures.items) (rising_pushed ss c.args.rec c.self.invariant.rising c.self.invariant.last (subst (λ (s : Shelved). AreBelow c.args.rec.number s.records) (sym c.self.view_is) c.requires.later));
      last = ap is_last_kept c.push_reserved.ensures.items ∙ last_pushed ss c.args.rec;
      counted = ap (λ k. k + 1) c.self.invariant.counted ∙ sym (length-append (kept_in ss) (c.args.rec ∷ [])) ∙ ap length (sym (ap kept_in c.push_reserved.ensures.items ∙ kept_in-append ss (Kept c.args.rec ∷ [])));
      empty = c.self.invariant.empty;
      room = omega (arith, c.push_reserved.ensures.len, room, c.self.invariant.room);
    }

pub returns-clause-records : goal.returns-clause-records
returns-clause-records c = ap kept_in c.push_reserved.ensures.items ∙ kept_in-append c.self.inside.slots.items (Kept c.args.rec ∷ []) ∙ ap (λ (s : Shelved). s.records ++ c.args.rec ∷ []) c.self.view_is
