use Rattle.std.proofs.Common.{◌≡◌, ◌-◌, false, not, take, length, sym, ap, ◌∙◌, subst, arith}
use Rattle.std.proofs.lemmas.Bool.{not-true}
use Rattle.coda_cancel.specs.Slots.{kept_in, DoSlotsRise, is_last_kept}
use Rattle.coda_cancel.proofs.Places.{kept_in-cut, rising_taken}
use Rattle.coda_cancel.proofs.shelf.trim.Goals as goal

pub loop-slots-preserved : goal.loop-slots-preserved
loop-slots-preserved c =
    let ss = c.loop-slots.slots.items in
    let gap : is_last_kept ss ≡ false = not-true (is_last_kept ss) (ap (λ l. not (is_last_kept l)) (sym c.deref.ensures.value) ∙ sym c.ends_in_gap.ensures ∙ c.loop-slots-test.true) in
    let cut : c.truncate.new.self.items ≡ take (length ss - 1) ss = c.truncate.ensures.items ∙ (let own : c.len.result - 1 ≡ length ss - 1 = omega (arith, c.len.ensures) in ap (λ k. take k ss) own) in
    record {
      records = ap kept_in cut ∙ kept_in-cut ss gap ∙ c.loop-slots.invariant.records;
      rising = λ h. subst DoSlotsRise (sym cut) (rising_taken (length ss - 1) ss (c.loop-slots.invariant.rising h));
      len = omega (arith, c.truncate.ensures.len, c.loop-slots.invariant.len);
      capacity = c.truncate.ensures.capacity ∙ c.loop-slots.invariant.capacity;
    }
