use Rattle.std.proofs.Common.{◌≡◌, ◌+◌, ◌++◌, take, drop, IfSome, sym, ap, ◌∙◌, subst, arith}
use Rattle.std.proofs.lemmas.List.{take-append-drop}
use Rattle.coda_cancel.specs.Numbers.{IsRising}
use Rattle.coda_cancel.specs.Mentions.{IsIndexOf}
use Rattle.coda_cancel.specs.Weights.{total_weight}
use Rattle.coda_cancel.proofs.Rising.{rising_drop}
use Rattle.coda_cancel.proofs.Sizes.{total-append}
use Rattle.coda_cancel.proofs.tail.Tail.take_front.Goals as goal

pub forget_front-requires-clause-rising : goal.forget_front-requires-clause-rising
forget_front-requires-clause-rising c =
    let rs = c.self.inside.shelf.records in
    let k = c.args.count in
    let front : c.deref.result.now ≡ take k rs = c.deref.ensures.value ∙ c.in_ok-front.ensures.front in
    subst IsRising (sym (take-append-drop k rs) ∙ (λ i. sym front i ++ sym c.in_ok-front.ensures.rest i)) c.self.invariant.rising

pub forget_front-requires-clause-indexed : goal.forget_front-requires-clause-indexed
forget_front-requires-clause-indexed c =
    let rs = c.self.inside.shelf.records in
    let k = c.args.count in
    let front : c.deref.result.now ≡ take k rs = c.deref.ensures.value ∙ c.in_ok-front.ensures.front in
    let parts = sym (take-append-drop k rs) ∙ (λ i. sym front i ++ sym c.in_ok-front.ensures.rest i) in
    subst (λ index. IfSome index (λ index. IsIndexOf index (c.deref.result.now ++ c.take_front.new.self.records))) (sym c.take.ensures.value)
    (subst (λ l. IfSome c.self.inside.index (λ index. IsIndexOf index l)) parts c.self.invariant.indexed)

pub weigh_light-requires : goal.weigh_light-requires
weigh_light-requires c =
    let rs = c.self.inside.shelf.records in
    let k = c.args.count in
    let front : c.deref-2.result.now ≡ take k rs = c.deref-2.ensures.value ∙ c.in_ok-front.ensures.front in
    let same = ap total_weight front in
    let both : total_weight rs ≡ total_weight (take k rs) + total_weight (drop k rs) = ap total_weight (sym (take-append-drop k rs)) ∙ total-append (take k rs) (drop k rs) in
    omega (arith, same, both, c.self.invariant.weighed)

pub overflow_sub-self : goal.overflow_sub-self
overflow_sub-self c =
    let rs = c.self.inside.shelf.records in
    let k = c.args.count in
    let front : c.deref-2.result.now ≡ take k rs = c.deref-2.ensures.value ∙ c.in_ok-front.ensures.front in
    let same = ap total_weight front in
    let both : total_weight rs ≡ total_weight (take k rs) + total_weight (drop k rs) = ap total_weight (sym (take-append-drop k rs)) ∙ total-append (take k rs) (drop k rs) in
    omega (arith, same, both, c.self.invariant.weighed, c.weigh_light.ensures)

pub invariant_of-self-2 : goal.invariant_of-self-2
invariant_of-self-2 c =
    let rs = c.self.inside.shelf.records in
    let k = c.args.count in
    let front : c.deref-2.result.now ≡ take k rs = c.deref-2.ensures.value ∙ c.in_ok-front.ensures.front in
    let same = ap total_weight front in
    let both : total_weight rs ≡ total_weight (take k rs) + total_weight (drop k rs) = ap total_weight (sym (take-append-drop k rs)) ∙ total-append (take k rs) (drop k rs) in
    let rest = c.in_ok-front.ensures.rest in
    let left = ap total_weight rest in
    record {
      rising = subst IsRising (sym rest) (rising_drop k rs c.self.invariant.rising);
      indexed = c.forget_front.ensures;
      weighed = omega (arith, same, both, left, c.self.invariant.weighed, c.weigh_light.ensures);
    }
