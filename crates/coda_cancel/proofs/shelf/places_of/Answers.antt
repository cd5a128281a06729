use Rattle.std.proofs.Common.{◌≡◌, ◌+◌, ◌++◌, ◌∷◌, [], length, take, length-append, sym, ap, ◌∙◌, arith, true, false}
use Rattle.coda_cancel.specs.Slots.{kept_in}
use Rattle.coda_cancel.proofs.Places.{first_places, other_places, kept_in-more, length_one}
use Rattle.coda_cancel.proofs.shelf.places_of.Goals as goal
use Rattle.coda_cancel.proofs.shelf.places_of.Goals.{then-is_kept, else-is_kept}

pub returns-then-left-eq0-clause-front : goal.returns-then-left-eq0-clause-front
returns-then-left-eq0-clause-front c =
    let all : length (kept_in (take c.loop-slot.places c.args.slots.now)) ≡ c.args.count = ap (λ k. length (kept_in (take k c.args.slots.now))) c.loop-slot.invariant.places ∙ omega (arith, c.loop-slot.invariant.passed, c.if-left-eq0.true) in
    first_places c.loop-slot.places c.args.count c.args.slots.now all

pub returns-then-left-eq0-clause-rest : goal.returns-then-left-eq0-clause-rest
returns-then-left-eq0-clause-rest c =
    let all : length (kept_in (take c.loop-slot.places c.args.slots.now)) ≡ c.args.count = ap (λ k. length (kept_in (take k c.args.slots.now))) c.loop-slot.invariant.places ∙ omega (arith, c.loop-slot.invariant.passed, c.if-left-eq0.true) in
    other_places c.loop-slot.places c.args.count c.args.slots.now all

pub loop-slot-preserved : goal.loop-slot-preserved
loop-slot-preserved c =
    let at = c.loop-slot.slot-index in
    let more : length (kept_in (take (at + 1) c.args.slots.now)) ≡ length (kept_in (take at c.args.slots.now)) + length (kept_in (c.slot-item.result ∷ [])) =
    ap length (kept_in-more at c.args.slots.now c.slot-item.result c.loop-slot-test.true ∙ ap (λ s. kept_in (take at c.args.slots.now) ++ kept_in (s ∷ [])) (sym c.slot-item.is)) ∙ length-append (kept_in (take at c.args.slots.now)) (kept_in (c.slot-item.result ∷ [])) in
    record {
      places = ap (λ k. k + 1) c.loop-slot.invariant.places;
      passed = elim c.if-is_kept.branch [
        | then-is_kept w ↦ let one = length_one c.slot-item.result true (sym c.is_kept.ensures ∙ w.if-is_kept.true) in omega (arith, more, one, w.left-is, c.loop-slot.invariant.passed, c.if-left-eq0.false)
        | else-is_kept w ↦ let none = length_one c.slot-item.result false (sym c.is_kept.ensures ∙ w.if-is_kept.false) in omega (arith, more, none, w.left-is, c.loop-slot.invariant.passed)
      ];
    }
