use Rattle.std.proofs.Common.{◌≡◌, ◌-◌, ◌+◌, ◌++◌, ◌∷◌, [], true, false, List, length, sym, ap, ◌∙◌, arith}
use Rattle.std.specs.Prelude.{nat_le}
use Rattle.coda_walk.specs.declared.item.Item.{Item}
use Rattle.coda_walk.specs.Going.{blocks_of, who_goes, going_within, without, next_to_go}
use Rattle.coda_walk.proofs.Steps.{going_none, going_fits, going_on, going_over}
use Rattle.coda_walk.proofs.room.going_plainly.Goals as goal

pub loop-step-init : goal.loop-step-init
unfolding who_goes
loop-step-init c fids same =
    let left : c.in_ok-left.left.items ≡ c.args.items.now = c.in_ok-left.ensures.items in
    let gone : c.new-gone.result.items ≡ [] = c.new-gone.ensures.items in
    let steps : length c.args.items.now - 0 ≡ length c.args.items.now = omega arith in
    λ i. gone i ++ going_within (steps i) c.args.size fids (left i)

pub returns-then-fit : goal.returns-then-fit
returns-then-fit c fids same =
    let fits : nat_le (blocks_of c.loop-step.left.items) c.args.size ≡ true = ap (λ (l : List Item). nat_le (blocks_of l) c.args.size) (sym c.deref.ensures.value) ∙ sym c.fit.ensures ∙ c.if-fit.true in
    going_over _ _ _ (going_fits (length c.args.items.now - c.loop-step._step) c.args.size fids c.loop-step.left.items fits) (c.loop-step.invariant fids same)

pub returns-in-None : goal.returns-in-None
returns-in-None c fids same =
    let none = ap (next_to_go fids) (sym c.deref-in-loop-step.ensures.value) ∙ sym (c.in_ok-next.ensures fids same) ∙ c.in-None.is in
    going_over _ _ _ (going_none (length c.args.items.now - c.loop-step._step) c.args.size fids c.loop-step.left.items none) (c.loop-step.invariant fids same)

pub loop-step-preserved : goal.loop-step-preserved
loop-step-preserved c fids same =
    let full : nat_le (blocks_of c.loop-step.left.items) c.args.size ≡ false = ap (λ (l : List Item). nat_le (blocks_of l) c.args.size) (sym c.deref.ensures.value) ∙ sym c.fit.ensures ∙ c.if-fit.false in
    let some = ap (next_to_go fids) (sym c.deref-in-loop-step.ensures.value) ∙ sym (c.in_ok-next.ensures fids same) ∙ c.in-Some.is in
    let inside = c.loop-step-test.true in
    let gone : c.push.new.self.items ≡ c.loop-step.gone.items ++ c.in-Some.next.fid ∷ [] = c.in_ok-push-in-Some.ensures.items in
    let left : c.in_ok-left-in-Some.left.items ≡ without c.in-Some.next.fid c.loop-step.left.items = c.in_ok-left-in-Some.ensures ∙ ap (without c.in-Some.next.fid) c.deref-in-Some.ensures.value in
    (λ i. gone i ++ going_within (length c.args.items.now - (c.loop-step._step + 1)) c.args.size fids (left i))
    ∙ going_on c.loop-step.gone.items c.loop-step._step (length c.args.items.now) c.args.size fids c.loop-step.left.items c.in-Some.next _ inside full some (c.loop-step.invariant fids same)
