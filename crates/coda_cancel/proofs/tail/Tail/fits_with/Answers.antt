use Rattle.std.proofs.Common.{◌≡◌, ◌+◌, ◌&&◌, ◌++◌, length, length-append, sym, ap, ◌∙◌}
use Rattle.std.specs.Prelude.{nat_le}
use Rattle.coda_cancel.specs.Passing.{goes, new_last, undropped}
use Rattle.coda_cancel.specs.Weights.{fits, total_weight}
use Rattle.coda_cancel.proofs.Sizes.{total-append, fits_added}
use Rattle.coda_cancel.proofs.tail.Tail.fits_with.Goals as goal

pub returns-then-are_few : goal.returns-then-are_few
returns-then-are_few c =
    let rs = c.args.self.now in
    let rec = c.args.rec.now in
    let b = c.staying-staying.result.cancelled in
    let left = undropped (goes b rec.op) rs in
    let own = new_last b rec in
    let few : c.are_few.result ≡ nat_le (length (left ++ own)) c.args.count =
    c.are_few.ensures rec ∙ ap (λ k. nat_le k c.args.count) (ap (λ k. k + length own) c.staying-staying.ensures.count ∙ sym (length-append left own)) in
    let light : c.is_light.result ≡ nat_le (total_weight (left ++ own)) c.args.weight =
    c.is_light.ensures ∙ ap (λ k. nat_le k c.args.weight) ((λ i. c.staying-staying.ensures.weight i + c.added.ensures i) ∙ sym (total-append left own)) in
    light ∙ ap (λ x. x && nat_le (total_weight (left ++ own)) c.args.weight) (sym c.if-are_few.true ∙ few)
    ∙ ap (λ b. fits c.args.count c.args.weight (undropped (goes b rec.op) rs ++ new_last b rec)) c.staying-staying.ensures.cancelled ∙ fits_added c.args.count c.args.weight rs rec

pub returns-else-are_few : goal.returns-else-are_few
returns-else-are_few c =
    let rs = c.args.self.now in
    let rec = c.args.rec.now in
    let b = c.staying-staying.result.cancelled in
    let left = undropped (goes b rec.op) rs in
    let own = new_last b rec in
    let few : c.are_few.result ≡ nat_le (length (left ++ own)) c.args.count =
    c.are_few.ensures rec ∙ ap (λ k. nat_le k c.args.count) (ap (λ k. k + length own) c.staying-staying.ensures.count ∙ sym (length-append left own)) in
    c.if-are_few.false ∙ ap (λ x. x && nat_le (total_weight (left ++ own)) c.args.weight) (sym c.if-are_few.false ∙ few)
    ∙ ap (λ b. fits c.args.count c.args.weight (undropped (goes b rec.op) rs ++ new_last b rec)) c.staying-staying.ensures.cancelled ∙ fits_added c.args.count c.args.weight rs rec
