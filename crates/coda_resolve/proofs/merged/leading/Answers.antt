use Rattle.std.proofs.Common.{Some, None, cond, sym, ap, ◌∙◌, option_copied}
use Rattle.coda_resolve.specs.Merged.{leading}
use Rattle.coda_resolve.proofs.Leaders.{leading_when}
use Rattle.coda_resolve.proofs.merged.leading.Goals as goal

pub returns-then-has_attributes : goal.returns-then-has_attributes
returns-then-has_attributes c = λ all is.
    let at = ap option_copied c.in_ok-held.was in
    sym (ap (leading all) at ∙ leading_when all c.in_ok-held.held.now _ c.has_attributes.result is c.has_attributes.ensures ∙ ap (λ b. cond b (Some c.in_ok-held.held.now) None) c.if-has_attributes.true)

pub returns-else-has_attributes : goal.returns-else-has_attributes
returns-else-has_attributes c = λ all is.
    let at = ap option_copied c.in_ok-held.was in
    sym (ap (leading all) at ∙ leading_when all c.in_ok-held.held.now _ c.has_attributes.result is c.has_attributes.ensures ∙ ap (λ b. cond b (Some c.in_ok-held.held.now) None) c.if-has_attributes.false)
