use Rattle.std.proofs.Common.{◌≡◌, ◌++◌, map, sym, ap, ◌∙◌, subst, arith, length}
use Rattle.coda_cancel.specs.declared.shelf.Slot.TheVariants.{Kept}
use Rattle.coda_cancel.specs.Slots.{kept_in, DoSlotsRise, is_last_kept}
use Rattle.coda_cancel.proofs.Places.{kept_in-kept, all_kept_rise, all_kept_last}
use Rattle.coda_cancel.proofs.shelf.Shelf.of.Goals as goal

pub invariant_of-result : goal.invariant_of-result
invariant_of-result c =
    let filled : c.fill.new.slots.items ≡ map Kept c.args.records.now.items = c.fill.ensures.slots ∙ (λ i. c.in_ok-slots.ensures.items i ++ map Kept (c.replace.ensures.value i).items) in
    let kept : kept_in c.fill.new.slots.items ≡ c.args.records.now.items = ap kept_in filled ∙ kept_in-kept c.args.records.now.items in
    record {
      rising = subst DoSlotsRise (sym filled) (all_kept_rise c.args.records.now.items c.requires);
      last = ap is_last_kept filled ∙ all_kept_last c.args.records.now.items;
      counted = let same = ap length kept in omega (arith, same, c.len-count.ensures);
      empty = c.in_ok-spare.ensures.len;
      room = omega (arith, c.fill.ensures.capacity, c.in_ok-slots.ensures.exact, c.in_ok-spare.ensures.exact);
    }

pub returns-clause-records : goal.returns-clause-records
returns-clause-records c =
    let filled : c.fill.new.slots.items ≡ map Kept c.args.records.now.items = c.fill.ensures.slots ∙ (λ i. c.in_ok-slots.ensures.items i ++ map Kept (c.replace.ensures.value i).items) in
    ap kept_in filled ∙ kept_in-kept c.args.records.now.items
