use Rattle.std.proofs.Common.{◌≡◌, true, sym, ap, ◌∙◌, subst, length}
use Rattle.coda_cancel.specs.Handing.{hand}
use Rattle.coda_cancel.specs.Passing.{owed_to}
use Rattle.coda_cancel.specs.Shelved.{Shelved, is_numbered}
use Rattle.coda_cancel.specs.Slots.{kept_in, number_of}
use Rattle.coda_cancel.specs.declared.shelf.Slot.TheVariants.{Kept}
use Rattle.coda_cancel.proofs.Places.{IsPlaceOf, found_here, paid_here, paid_kept, rising_here, last_here, kept_in_rises, length_paid, somewhere}
use Rattle.coda_cancel.proofs.shelf.Shelf.pay.Goals as goal

pub returns-clause-paid : goal.returns-clause-paid
returns-clause-paid c front rec back e is =
    let ss = c.self.inside.slots.items in
    let place = subst (λ l. IsPlaceOf l c.args.number c.position-at.result) c.deref.ensures.value c.position-at.ensures.place in
    let here = ap (λ (s : Shelved). s.records) c.self.view_is ∙ e in
    paid_here ss c.args.number c.position-at.result place front rec back c.pay.new.self (hand (owed_to c.args.fid c.args.owed) rec) here is (c.pay.ensures rec (found_here ss c.args.number c.position-at.result place front rec back c.index_mut.result.now here is c.index_mut.ensures.value))

pub invariant_of-self : goal.invariant_of-self
invariant_of-self c =
    let ss = c.self.inside.slots.items in
    let place = subst (λ l. IsPlaceOf l c.args.number c.position-at.result) c.deref.ensures.value c.position-at.ensures.place in
    let there : is_numbered c.args.number (kept_in ss) ≡ true = ap (λ (s : Shelved). is_numbered c.args.number s.records) c.self.view_is ∙ c.requires.there in
    let paid = paid_kept ss c.args.number c.position-at.result place (hand (owed_to c.args.fid c.args.owed)) c.index_mut.result.now c.pay.new.self there c.index_mut.ensures.value c.pay.ensures in
    let s = somewhere c.args.number (kept_in ss) there in
    record {
      rising = rising_here ss c.args.number c.position-at.result place c.index_mut.result.now c.pay.new.self c.self.invariant.rising there c.index_mut.ensures.value (ap number_of paid.1.1.1.1 ∙ ap number_of (ap Kept paid.1.1.1.0) ∙ sym (ap number_of paid.1.1.0));
      last = last_here ss c.args.number c.position-at.result place c.index_mut.result.now c.pay.new.self paid.0 c.self.invariant.last there paid.1.1.1.1;
      counted = c.self.invariant.counted ∙ ap length s.here ∙ length_paid s.front s.back s.rec (hand (owed_to c.args.fid c.args.owed) s.rec) ∙ ap length (sym (returns-clause-paid c s.front s.rec s.back (ap (λ (s : Shelved). s.records) (sym c.self.view_is) ∙ s.here) s.is));
      empty = c.self.invariant.empty;
      room = c.self.invariant.room;
    }

pub returns-clause-rising : goal.returns-clause-rising
returns-clause-rising c = kept_in_rises _ (invariant_of-self c).rising
