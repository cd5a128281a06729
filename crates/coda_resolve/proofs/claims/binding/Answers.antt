use Rattle.std.proofs.Common.{map, option_copied, ◌∙◌}
use Rattle.coda_resolve.proofs.Led.{binding_led, binding_shared}
use Rattle.coda_resolve.proofs.claims.binding.Goals as goal

pub returns-in-Some : goal.returns-in-Some
returns-in-Some c =
    let copies = map option_copied c.args.copies.now in
    binding_led copies c.args.claims.now c.args.name.now c.led.result c.requires (c.led.ensures copies c.requires.lacking) c.in-Some.to c.in-Some.is

pub returns-in-None : goal.returns-in-None
returns-in-None c =
    let copies = map option_copied c.args.copies.now in
    c.shared.ensures ∙ binding_shared copies c.args.claims.now c.args.name.now c.led.result c.requires (c.led.ensures copies c.requires.lacking) c.in-None.is
