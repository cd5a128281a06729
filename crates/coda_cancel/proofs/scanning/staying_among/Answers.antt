use Rattle.std.proofs.Common.{◌≡◌, true, cond, ◌∷◌, length, sym, ap, ◌∙◌, arith}
use Rattle.coda_cancel.specs.Passing.{goes, undropped}
use Rattle.coda_cancel.specs.Weights.{total_weight}
use Rattle.coda_cancel.proofs.Entered.{undropped_few, undropped_light}
use Rattle.coda_cancel.proofs.scanning.staying_among.Goals as goal

pub overflow_sub-count : goal.overflow_sub-count
overflow_sub-count c =
    let t = goes c.cancels-cancelled.result c.args.op.now in
    let rec = c.in-Some.record.now in
    let rest = c.take_first.new.self in
    let gone : t rec.op ≡ true = sym c.goes.ensures ∙ c.if-goes.true in
    let left = ap (λ l. length (undropped t l)) c.in-Some.ensures.some ∙ ap (λ b. length (cond b (undropped t rest) (rec ∷ undropped t rest))) gone in
    let all = ap length c.in-Some.ensures.some in
    let few = undropped_few t rest in
    omega (arith, left, all, few, c.loop-record.invariant.count)

pub overflow_sub-weight : goal.overflow_sub-weight
overflow_sub-weight c =
    let t = goes c.cancels-cancelled.result c.args.op.now in
    let rec = c.in-Some.record.now in
    let rest = c.take_first.new.self in
    let gone : t rec.op ≡ true = sym c.goes.ensures ∙ c.if-goes.true in
    let left = ap (λ l. total_weight (undropped t l)) c.in-Some.ensures.some ∙ ap (λ b. total_weight (cond b (undropped t rest) (rec ∷ undropped t rest))) gone in
    let all = ap total_weight c.in-Some.ensures.some in
    let light = undropped_light t rest in
    omega (arith, left, all, light, c.weight-weight.ensures, c.loop-record.invariant.weight)

pub loop-record-preserved-then-goes : goal.loop-record-preserved-then-goes
loop-record-preserved-then-goes c =
    let t = goes c.cancels-cancelled.result c.args.op.now in
    let rec = c.in-Some.record.now in
    let rest = c.take_first.new.self in
    let gone : t rec.op ≡ true = sym c.goes.ensures ∙ c.if-goes.true in
    let fewer = ap (λ l. length (undropped t l)) c.in-Some.ensures.some ∙ ap (λ b. length (cond b (undropped t rest) (rec ∷ undropped t rest))) gone in
    let lighter = ap (λ l. total_weight (undropped t l)) c.in-Some.ensures.some ∙ ap (λ b. total_weight (cond b (undropped t rest) (rec ∷ undropped t rest))) gone in
    let count = ap length c.in-Some.ensures.some in
    let weight = ap total_weight c.in-Some.ensures.some in
    let few = undropped_few t rest in
    let light = undropped_light t rest in
    record {
      count = omega (arith, fewer, count, few, c.loop-record.invariant.count);
      weight = omega (arith, lighter, weight, light, c.weight-weight.ensures, c.loop-record.invariant.weight);
    }
