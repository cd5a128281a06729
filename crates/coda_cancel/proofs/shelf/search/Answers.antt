use Rattle.std.proofs.Common.{◌+◌, ◌-◌, ◌/◌, ◌<◌, length, arith}
use Rattle.coda_cancel.proofs.Places.{searched_below, searched_above}
use Rattle.coda_cancel.proofs.shelf.search.Goals as goal

pub loop-low-preserved-then-number : goal.loop-low-preserved-then-number
loop-low-preserved-then-number c =
    let mid = c.loop-low.low + (c.loop-low.high - c.loop-low.low) / 2 in
    let within : mid < length c.args.slots.now = omega (arith, c.loop-low.invariant.in_range, c.loop-low.invariant.ordered, c.loop-low-test.true) in
    let low = c.if-number.true in
    let own = c.number.ensures in
    record {
      ordered = omega (arith, c.loop-low-test.true);
      in_range = c.loop-low.invariant.in_range;
      here = λ front slot back e is. (searched_below c.args.slots.now c.args.number mid front slot back c.requires.rising e is within c.index-slots-middle.result c.index-slots-middle.is (omega (arith, low, own)), (c.loop-low.invariant.here front slot back e is).1);
    }

pub loop-low-preserved : goal.loop-low-preserved
loop-low-preserved c =
    let mid = c.loop-low.low + (c.loop-low.high - c.loop-low.low) / 2 in
    let within : mid < length c.args.slots.now = omega (arith, c.loop-low.invariant.in_range, c.loop-low.invariant.ordered, c.loop-low-test.true) in
    let high = c.if-number.false in
    let own = c.number.ensures in
    record {
      ordered = omega (arith, c.loop-low-test.true);
      in_range = omega (arith, within);
      here = λ front slot back e is. ((c.loop-low.invariant.here front slot back e is).0, searched_above c.args.slots.now c.args.number mid front slot back c.requires.rising e is within c.index-slots-middle.result c.index-slots-middle.is (omega (arith, high, own)));
    }
