use Rattle.std.proofs.Common.{◌≡◌, ◌+◌, ◌<◌, ◌++◌, ◌∷◌, [], length, get_or, take, drop, slice_set, suc, length-append, append_assoc, refl, sym, ap, ◌∙◌, subst, arith}
use Rattle.std.proofs.lemmas.List.{append-nil}
use Rattle.std.specs.Vec.{vec_capacity}
use Rattle.coda_cancel.specs.Slots.{kept_in, DoSlotsRise}
use Rattle.coda_cancel.proofs.Places.{kept_in-more}
use Rattle.coda_cancel.proofs.Vacated.{vacated, kept_in-vacated, rising_vacated, nothing_vacated, vacated_next, vacated_at, kept_here, none_here, fewer_taken}
use Rattle.coda_cancel.proofs.shelf.vacate.Goals as goal
use Rattle.coda_cancel.proofs.shelf.vacate.Goals.{in-Some, in_default}

pub loop-at-init : goal.loop-at-init
loop-at-init c = record { slots = nothing_vacated c.args.slots.now.items; records = sym (append-nil c.args.records.now.items); slots_capacity = refl; records_capacity = refl }

pub push_reserved-requires : goal.push_reserved-requires
push_reserved-requires c =
    let ss = c.args.slots.now.items in
    let at = c.loop-at.at in
    let s = c.index_mut.result.now in
    let inv = c.loop-at.invariant in
    let lt : at < length ss = omega (arith, c.loop-at-test.true, c.requires.within) in
    let same : s ≡ get_or ss at s = c.index_mut.ensures.value ∙ ap (λ l. get_or l at s) inv.slots ∙ vacated_at at ss s in
    let one = kept_here s c.in-Some.record (sym c.in-Some.is ∙ c.take.ensures.record) in
    let more : length (kept_in (take (at + 1) ss)) ≡ length (kept_in (take at ss)) + 1 =
    ap length (kept_in-more at ss s lt ∙ ap (λ t. kept_in (take at ss) ++ kept_in (t ∷ [])) (sym same) ∙ ap (λ l. kept_in (take at ss) ++ l) one) ∙ length-append (kept_in (take at ss)) (c.in-Some.record ∷ []) in
    let few = fewer_taken (at + 1) c.args.places ss (omega (arith, c.loop-at-test.true)) in
    let len = ap length inv.records ∙ length-append c.args.records.now.items (kept_in (take at ss)) in
    omega (arith, more, few, len, inv.records_capacity, c.requires.room)

pub loop-at-preserved : goal.loop-at-preserved
loop-at-preserved c =
    let ss = c.args.slots.now.items in
    let rs = c.args.records.now.items in
    let at = c.loop-at.at in
    let s = c.index_mut.result.now in
    let inv = c.loop-at.invariant in
    let lt : at < length ss = omega (arith, c.loop-at-test.true, c.requires.within) in
    let there = c.index_mut.ensures.value ∙ ap (λ l. get_or l at s) inv.slots in
    let same : s ≡ get_or ss at s = there ∙ vacated_at at ss s in
    let more : kept_in (take (at + 1) ss) ≡ kept_in (take at ss) ++ kept_in (s ∷ []) = kept_in-more at ss s lt ∙ ap (λ t. kept_in (take at ss) ++ kept_in (t ∷ [])) (sym same) in
    let next : suc at ≡ at + 1 = omega arith in
    record {
      slots = (λ i. slice_set (inv.slots i) at (c.take.ensures.gone i)) ∙ vacated_next at ss s lt there ∙ ap (λ n. vacated n ss) next;
      records = elim c.match-take.branch [
        | in-Some w ↦ ap (λ v. v.items) w.records-is ∙ w.push_reserved.ensures.items ∙ ap (λ l. l ++ w.in-Some.record ∷ []) inv.records ∙ append_assoc rs (kept_in (take at ss)) (w.in-Some.record ∷ []) ∙ ap (λ l. rs ++ l) (sym (more ∙ ap (λ l. kept_in (take at ss) ++ l) (kept_here s w.in-Some.record (sym w.in-Some.is ∙ c.take.ensures.record))))
        | in_default w ↦ ap (λ v. v.items) w.records-is ∙ inv.records ∙ ap (λ l. rs ++ l) (sym (more ∙ ap (λ l. kept_in (take at ss) ++ l) (none_here s (sym w.in_default.is ∙ c.take.ensures.record)) ∙ append-nil (kept_in (take at ss))))
      ];
      slots_capacity = inv.slots_capacity;
      records_capacity = elim c.match-take.branch [
        | in-Some w ↦ ap vec_capacity w.records-is ∙ w.push_reserved.ensures.capacity ∙ inv.records_capacity
        | in_default w ↦ ap vec_capacity w.records-is ∙ inv.records_capacity
      ];
    }

pub returns-clause-rest : goal.returns-clause-rest
returns-clause-rest c =
    let end : c.loop-at.at ≡ c.args.places = omega arith in
    ap kept_in c.loop-at.invariant.slots ∙ kept_in-vacated c.loop-at.at c.args.slots.now.items ∙ ap (λ n. kept_in (drop n c.args.slots.now.items)) end

pub returns-clause-rising : goal.returns-clause-rising
returns-clause-rising c = λ rise. subst DoSlotsRise (sym c.loop-at.invariant.slots) (rising_vacated c.loop-at.at c.args.slots.now.items rise)
