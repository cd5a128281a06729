use Rattle.std.proofs.Common.{◌≡◌, ◌-◌, drop, length, sym, ap, ◌∙◌, subst, arith}
use Rattle.std.proofs.lemmas.List.{length-drop}
use Rattle.coda_cancel.specs.Slots.{kept_in}
use Rattle.coda_cancel.proofs.shelf.Shelf.take_front.Goals as goal

pub invariant_of-self : goal.invariant_of-self
invariant_of-self c =
    let ss = c.self.inside.slots.items in
    let n = c.places_of-places.result in
    let left : kept_in c.trim.new.slots.items ≡ drop c.args.count (kept_in ss) =
    c.trim.ensures.records ∙ c.vacate.ensures.rest ∙ subst (λ l. kept_in (drop n l) ≡ drop c.args.count (kept_in l)) c.deref.ensures.value c.places_of-places.ensures.rest in
    record {
      rising = c.trim.ensures.rising (c.vacate.ensures.rising c.self.invariant.rising);
      last = c.trim.ensures.last;
      counted = ap (λ k. k - c.args.count) c.self.invariant.counted ∙ sym (ap length left ∙ length-drop c.args.count (kept_in ss));
      empty = c.self.invariant.empty;
      room = omega (arith, c.trim.ensures.len, c.vacate.ensures.len, c.self.invariant.room);
    }
