use Rattle.std.proofs.Common.{ap, ◌∙◌, sym, is_some}
use Rattle.coda_resolve.proofs.Collected.{split_first}
use Rattle.coda_resolve.proofs.Led.{led_here, led_further, rest_are}
use Rattle.coda_resolve.proofs.claims.+led.Goals as goal

pub returns-then-is_some : goal.returns-then-is_some
returns-then-is_some t c = λ all are.
    let split = split_first c.args.claims.now c.first-item.result c.in-len1-up.len_at_least c.first-item.is in
    led_further all c.args.name.now c.args.claims.now _ c.first-item.result split are c.led.result (ap is_some (sym c.find.ensures) ∙ sym c.is_some.ensures ∙ c.if-is_some.true) (c.led.ensures all (rest_are all c.args.name.now c.args.claims.now _ c.first-item.result split are))

pub returns-else-is_some : goal.returns-else-is_some
returns-else-is_some t c = λ all are.
    let split = split_first c.args.claims.now c.first-item.result c.in-len1-up.len_at_least c.first-item.is in
    led_here all c.args.name.now c.args.claims.now _ c.first-item.result split are c.bound.result (ap is_some (sym c.find.ensures) ∙ sym c.is_some.ensures ∙ c.if-is_some.false) c.bound.ensures
