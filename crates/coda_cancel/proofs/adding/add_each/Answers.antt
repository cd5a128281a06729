use Rattle.std.proofs.Common.{◌≡◌, ◌+◌, ◌-◌, ◌∷◌, ◌++◌, Some, reverse, sym, ap, ◌∙◌, subst, arith}
use Rattle.std.proofs.lemmas.List.{append-nil}
use Rattle.coda_cancel.specs.Numbers.{IsRising, numbers, least, dropped}
use Rattle.coda_cancel.specs.Joins.{noted}
use Rattle.coda_cancel.specs.Mentions.{CoversUpTo, IsIndexOf}
use Rattle.coda_cancel.specs.Passing.{goes, new_last, undropped}
use Rattle.coda_cancel.specs.Weights.{total_weight}
use Rattle.coda_cancel.proofs.Rising.{rising_before}
use Rattle.coda_cancel.proofs.Sizes.{total-append}
use Rattle.coda_cancel.proofs.Turns.{turned, turn_added, turn_rising, turn_joins}
use Rattle.coda_cancel.proofs.Entered.{covers_front, first_covers, added_indexed, dropped_goes, weight_added, weight_bound}
use Rattle.coda_cancel.proofs.adding.add_each.Goals as goal

pub leaving_with-gone-requires-clause-indexed : goal.leaving_with-gone-requires-clause-indexed
leaving_with-gone-requires-clause-indexed c =
    let rs = c.loop-rec.shelf.records in
    let rec = c.in-Some.rec in
    let os = reverse c.pop.new.self.items in
    let inv = c.loop-rec.invariant in
    let turn = turned c.loop-rec.later.items c.pop.new.self.items rec c.in-Some.ensures.items in
    let rising = subst (λ l. IsRising (rs ++ l)) turn inv.rising in
    let indexed = subst (λ l. IsIndexOf c.loop-rec.index (rs ++ l)) turn inv.indexed in
    covers_front c.loop-rec.index rs rec (rising_before rs rec os rising).1 (first_covers c.loop-rec.index rs rec os rising indexed)

pub overflow_add-weight : goal.overflow_add-weight
overflow_add-weight c =
    let rs = c.loop-rec.shelf.records in
    let rec = c.in-Some.rec in
    let os = reverse c.pop.new.self.items in
    let inv = c.loop-rec.invariant in
    let turn = turned c.loop-rec.later.items c.pop.new.self.items rec c.in-Some.ensures.items in
    let rising = subst (λ l. IsRising (rs ++ l)) turn inv.rising in
    let gone = c.leaving_with-gone.ensures in
    let goneweight = subst (λ b. c.leaving_with-gone.result.weight + total_weight (undropped (goes b rec.op) rs) ≡ total_weight rs) gone.cancelled gone.weight in
    let all = ap (λ l. total_weight (rs ++ l)) turn ∙ total-append rs (rec ∷ os) in
    let own = c.added.ensures ∙ ap (λ b. total_weight (new_last b rec)) gone.cancelled in
    let sum = weight_added rs rec c.leaving_with-gone.result.weight goneweight in
    let bound = weight_bound rs rec c.leaving_with-gone.result.weight goneweight in
    omega (arith, own, sum, bound, all, inv.weight, inv.light)

pub add_reserved-requires-clause-later : goal.add_reserved-requires-clause-later
add_reserved-requires-clause-later c =
    let rs = c.loop-rec.shelf.records in
    let rec = c.in-Some.rec in
    let os = reverse c.pop.new.self.items in
    let inv = c.loop-rec.invariant in
    let turn = turned c.loop-rec.later.items c.pop.new.self.items rec c.in-Some.ensures.items in
    let rising = subst (λ l. IsRising (rs ++ l)) turn inv.rising in
    (rising_before rs rec os rising).1

pub add_reserved-requires-clause-indexed : goal.add_reserved-requires-clause-indexed
add_reserved-requires-clause-indexed c =
    let rs = c.loop-rec.shelf.records in
    let rec = c.in-Some.rec in
    let os = reverse c.pop.new.self.items in
    let inv = c.loop-rec.invariant in
    let turn = turned c.loop-rec.later.items c.pop.new.self.items rec c.in-Some.ensures.items in
    let rising = subst (λ l. IsRising (rs ++ l)) turn inv.rising in
    let indexed = subst (λ l. IsIndexOf c.loop-rec.index (rs ++ l)) turn inv.indexed in
    first_covers c.loop-rec.index rs rec os rising indexed

pub loop-rec-preserved-in-Some-least : goal.loop-rec-preserved-in-Some-least
loop-rec-preserved-in-Some-least c =
    let rs = c.loop-rec.shelf.records in
    let rec = c.in-Some.rec in
    let os = reverse c.pop.new.self.items in
    let inv = c.loop-rec.invariant in
    let turn = turned c.loop-rec.later.items c.pop.new.self.items rec c.in-Some.ensures.items in
    let rising = subst (λ l. IsRising (rs ++ l)) turn inv.rising in
    let indexed = subst (λ l. IsIndexOf c.loop-rec.index (rs ++ l)) turn inv.indexed in
    let gone = c.leaving_with-gone.ensures in
    let goneweight = subst (λ b. c.leaving_with-gone.result.weight + total_weight (undropped (goes b rec.op) rs) ≡ total_weight rs) gone.cancelled gone.weight in
    let all = ap (λ l. total_weight (rs ++ l)) turn ∙ total-append rs (rec ∷ os) in
    let after = c.add_reserved.new.shelf.records in
    let step = c.add_reserved.ensures.records in
    let told : c.leaving_with-gone.result.least ≡ least (dropped rs rec) = gone.least ∙ ap (λ b. least (numbers (goes b rec.op) rs)) gone.cancelled ∙ ap least (dropped_goes rs rec) in
    let own = c.added.ensures ∙ ap (λ b. total_weight (new_last b rec)) gone.cancelled in
    let bound = weight_bound rs rec c.leaving_with-gone.result.weight goneweight in
    let left = total-append after os in
    let same = ap total_weight step in
    record {
      records = turn_added rs c.loop-rec.later.items c.pop.new.self.items after rec c.in-Some.ensures.items step _ inv.records;
      joins =
          let note : c.push_reserved.new.self.items ≡ c.loop-rec.joins.items ++ noted rec.number (least (dropped rs rec)) = c.push_reserved.ensures.items ∙ ap (λ o. c.loop-rec.joins.items ++ noted rec.number o) (sym c.in-Some-least.is ∙ told) in
          rw note (turn_joins rs c.loop-rec.later.items c.pop.new.self.items after rec c.in-Some.ensures.items step c.loop-rec.joins.items _ inv.joins);
      rising = turn_rising rs c.loop-rec.later.items c.pop.new.self.items after rec c.in-Some.ensures.items step inv.rising;
      indexed = subst (λ l. IsIndexOf c.add_reserved.new.index (l ++ os)) (sym step)
          (added_indexed c.loop-rec.index rs rec os rising indexed c.add_reserved.new.index (subst (CoversUpTo (Some rec.number) c.add_reserved.new.index) step c.add_reserved.ensures.indexed) c.add_reserved.ensures.beyond);
      weight = (λ i. inv.weight i - c.leaving_with-gone.result.weight + own i) ∙ weight_added rs rec c.leaving_with-gone.result.weight goneweight ∙ sym same;
      light = omega (arith, left, same, bound, all, inv.light);
      room = omega (arith, c.in-Some.ensures.cases, c.add_reserved.ensures.room, inv.room);
      joins_room = omega (arith, c.in-Some.ensures.cases, c.push_reserved.ensures.len, c.push_reserved.ensures.capacity, inv.joins_room);
    }

pub loop-rec-preserved : goal.loop-rec-preserved
loop-rec-preserved c =
    let rs = c.loop-rec.shelf.records in
    let rec = c.in-Some.rec in
    let os = reverse c.pop.new.self.items in
    let inv = c.loop-rec.invariant in
    let turn = turned c.loop-rec.later.items c.pop.new.self.items rec c.in-Some.ensures.items in
    let rising = subst (λ l. IsRising (rs ++ l)) turn inv.rising in
    let indexed = subst (λ l. IsIndexOf c.loop-rec.index (rs ++ l)) turn inv.indexed in
    let gone = c.leaving_with-gone.ensures in
    let goneweight = subst (λ b. c.leaving_with-gone.result.weight + total_weight (undropped (goes b rec.op) rs) ≡ total_weight rs) gone.cancelled gone.weight in
    let all = ap (λ l. total_weight (rs ++ l)) turn ∙ total-append rs (rec ∷ os) in
    let after = c.add_reserved.new.shelf.records in
    let step = c.add_reserved.ensures.records in
    let told : c.leaving_with-gone.result.least ≡ least (dropped rs rec) = gone.least ∙ ap (λ b. least (numbers (goes b rec.op) rs)) gone.cancelled ∙ ap least (dropped_goes rs rec) in
    let own = c.added.ensures ∙ ap (λ b. total_weight (new_last b rec)) gone.cancelled in
    let bound = weight_bound rs rec c.leaving_with-gone.result.weight goneweight in
    let left = total-append after os in
    let same = ap total_weight step in
    record {
      records = turn_added rs c.loop-rec.later.items c.pop.new.self.items after rec c.in-Some.ensures.items step _ inv.records;
      joins =
          let note : c.loop-rec.joins.items ≡ c.loop-rec.joins.items ++ noted rec.number (least (dropped rs rec)) = sym (append-nil c.loop-rec.joins.items) ∙ ap (λ o. c.loop-rec.joins.items ++ noted rec.number o) (sym c.in_default-least.is ∙ told) in
          rw note (turn_joins rs c.loop-rec.later.items c.pop.new.self.items after rec c.in-Some.ensures.items step c.loop-rec.joins.items _ inv.joins);
      rising = turn_rising rs c.loop-rec.later.items c.pop.new.self.items after rec c.in-Some.ensures.items step inv.rising;
      indexed = subst (λ l. IsIndexOf c.add_reserved.new.index (l ++ os)) (sym step)
          (added_indexed c.loop-rec.index rs rec os rising indexed c.add_reserved.new.index (subst (CoversUpTo (Some rec.number) c.add_reserved.new.index) step c.add_reserved.ensures.indexed) c.add_reserved.ensures.beyond);
      weight = (λ i. inv.weight i - c.leaving_with-gone.result.weight + own i) ∙ weight_added rs rec c.leaving_with-gone.result.weight goneweight ∙ sym same;
      light = omega (arith, left, same, bound, all, inv.light);
      room = omega (arith, c.in-Some.ensures.cases, c.add_reserved.ensures.room, inv.room);
      joins_room = omega (arith, c.in-Some.ensures.cases, inv.joins_room);
    }
