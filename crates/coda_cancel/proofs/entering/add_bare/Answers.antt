use Rattle.std.proofs.Common.{◌∷◌, ◌++◌, [], sym, ap, ◌∙◌, arith}
use Rattle.coda_cancel.specs.Numbers.{numbers, least}
use Rattle.coda_cancel.specs.Passing.{goes}
use Rattle.coda_cancel.specs.Weights.{total_weight}
use Rattle.coda_cancel.proofs.Additions.{plain_added}
use Rattle.coda_cancel.proofs.Entered.{dropped_goes}
use Rattle.coda_cancel.proofs.Leaves.{never_cancels, none_numbered}
use Rattle.coda_cancel.proofs.Sizes.{total-append}
use Rattle.coda_cancel.proofs.entering.add_bare.Goals as goal

pub returns-clause-ok : goal.returns-clause-ok
returns-clause-ok c =
    c.push.ensures.records ∙ ap (λ l. l ++ c.args.rec ∷ []) c.reserve.ensures.records ∙ plain_added c.args.shelf.now.records c.args.rec c.requires.bare

pub returns-clause-weighed : goal.returns-clause-weighed
returns-clause-weighed c =
    let rs = c.args.shelf.now.records in
    let pushed = ap total_weight (c.push.ensures.records ∙ ap (λ l. l ++ c.args.rec ∷ []) c.reserve.ensures.records) in
    let both = total-append rs (c.args.rec ∷ []) in
    omega (arith, pushed, both, c.in-Some.ensures, c.weight.ensures, c.requires.weighed)

pub returns-clause-least : goal.returns-clause-least
returns-clause-least c =
    let rs = c.args.shelf.now.records in
    let op = c.args.rec.op in
    ap least (sym (none_numbered op c.requires.bare rs) ∙ ap (λ b. numbers (goes b op) rs) (sym (never_cancels op c.requires.bare rs)) ∙ dropped_goes rs c.args.rec)
