use Rattle.std.proofs.Common.{rules, ◌≡◌, ◌+◌, ◌≤◌, ◌<◌, ℕ, false, length, take, sym, ap, ◌∙◌, arith}
use Rattle.std.proofs.lemmas.Bool.Decides.{nat_tests}
use Rattle.std.specs.Prelude.{nat_le}
use Rattle.coda_fid.specs.Op.{weight_of}
use Rattle.coda_fid.specs.declared.op.Record.{Record}
use Rattle.coda_cancel.specs.Weights.{total_weight}
use Rattle.coda_cancel.proofs.Leaves.{total-more, total-front}
use Rattle.coda_site.proofs.messages.are_light.Goals as goal

-- records in front that weigh more than is left of the most that a letter may have
too_heavy : (total front with_next weight left : ℕ) → left + front ≡ 16777216 → with_next ≡ front + weight → with_next ≤ total → (weight ≤ left → ⊥) → false ≡ nat_le total 16777216
too_heavy total front with_next weight left inside next most over = grind (arith, nat_tests, inside, next, most, over)

pub returns-in-None : goal.returns-in-None
returns-in-None c =
    let recs = c.args.recs.now in
    let i = c.loop-rec.rec-index in
    let inside : i < length recs = search rules in
    let more = total-more i recs c.rec-item.result inside in
    let weighs : c.weight.result ≡ weight_of c.rec-item.result.op = c.weight.ensures in
    too_heavy (total_weight recs) (total_weight (take i recs)) (total_weight (take (i + 1) recs)) c.weight.result c.loop-rec.left c.loop-rec.invariant
    (more ∙ ap (λ (r : Record). total_weight (take i recs) + weight_of r.op) (sym c.rec-item.is) ∙ ap (λ (w : ℕ). total_weight (take i recs) + w) (sym weighs)) (total-front (i + 1) recs) c.in-None.ensures

pub loop-rec-preserved : goal.loop-rec-preserved
loop-rec-preserved c = search (rules, total-more)
