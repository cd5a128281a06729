use Rattle.std.proofs.Common.{◌≡◌, true, Some, suc, length, refl, sym, ap, ◌∙◌, subst, arith}
use Rattle.std.specs.Option.{IsSome}
use Rattle.coda_cancel.specs.Shelved.{Shelved, is_numbered}
use Rattle.coda_cancel.specs.Slots.{kept_in, number_of, record_of}
use Rattle.coda_cancel.proofs.Places.{IsPlaceOf, found_here, taken_here, rising_here, kept_in_rises, length_taken, somewhere}
use Rattle.coda_cancel.proofs.shelf.Shelf.take.Goals as goal

pub unwrap-requires : goal.unwrap-requires
unwrap-requires c =
    let ss = c.self.inside.slots.items in
    let place = subst (λ l. IsPlaceOf l c.args.number c.position-at.result) c.deref.ensures.value c.position-at.ensures.place in
    let s = somewhere c.args.number (kept_in ss) (ap (λ (s : Shelved). is_numbered c.args.number s.records) c.self.view_is ∙ c.requires) in
    let here = found_here ss c.args.number c.position-at.result place s.front s.rec s.back c.index_mut.result.now s.here s.is c.index_mut.ensures.value in
    subst IsSome (sym (c.take-record.ensures.record ∙ ap record_of here)) refl

pub invariant_of-self : goal.invariant_of-self
invariant_of-self c =
    let ss = c.self.inside.slots.items in
    let place = subst (λ l. IsPlaceOf l c.args.number c.position-at.result) c.deref.ensures.value c.position-at.ensures.place in
    let there : is_numbered c.args.number (kept_in ss) ≡ true = ap (λ (s : Shelved). is_numbered c.args.number s.records) c.self.view_is ∙ c.requires in
    let s = somewhere c.args.number (kept_in ss) there in
    let taken = taken_here ss c.args.number c.position-at.result place s.front s.rec s.back c.take-record.new.self (number_of c.index_mut.result.now) s.here s.is c.take-record.ensures.gone in
    let fewer : length (kept_in ss) ≡ suc (length (kept_in c.trim.new.slots.items)) = ap length s.here ∙ length_taken s.front s.back s.rec ∙ ap (λ l. suc (length l)) (sym (c.trim.ensures.records ∙ taken)) in
    record {
      rising = c.trim.ensures.rising (rising_here ss c.args.number c.position-at.result place c.index_mut.result.now c.take-record.new.self c.self.invariant.rising there c.index_mut.ensures.value (ap number_of c.take-record.ensures.gone));
      last = c.trim.ensures.last;
      counted = omega (arith, fewer, c.self.invariant.counted);
      empty = c.self.invariant.empty;
      room = omega (arith, c.trim.ensures.len, c.self.invariant.room);
    }

pub returns-clause-record : goal.returns-clause-record
returns-clause-record c front rec back e is =
    let ss = c.self.inside.slots.items in
    let place = subst (λ l. IsPlaceOf l c.args.number c.position-at.result) c.deref.ensures.value c.position-at.ensures.place in
    let here = found_here ss c.args.number c.position-at.result place front rec back c.index_mut.result.now (ap (λ (s : Shelved). s.records) c.self.view_is ∙ e) is c.index_mut.ensures.value in
    let same : Some c.unwrap.result ≡ Some rec = sym c.unwrap.ensures ∙ c.take-record.ensures.record ∙ ap record_of here in
    cc

pub returns-clause-others : goal.returns-clause-others
returns-clause-others c front rec back e is =
    let ss = c.self.inside.slots.items in
    let place = subst (λ l. IsPlaceOf l c.args.number c.position-at.result) c.deref.ensures.value c.position-at.ensures.place in
    c.trim.ensures.records ∙ taken_here ss c.args.number c.position-at.result place front rec back c.take-record.new.self (number_of c.index_mut.result.now) (ap (λ (s : Shelved). s.records) c.self.view_is ∙ e) is c.take-record.ensures.gone

pub returns-clause-rising : goal.returns-clause-rising
returns-clause-rising c = kept_in_rises c.trim.new.slots.items (invariant_of-self c).rising
