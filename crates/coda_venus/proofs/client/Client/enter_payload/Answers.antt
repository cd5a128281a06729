use Rattle.coda_venus.proofs.Taking.{enters}
use Rattle.coda_venus.proofs.client.Client.enter_payload.Goals as goal

pub returns-in-Ok-clause-ok : goal.returns-in-Ok-clause-ok
returns-in-Ok-clause-ok c = λ s is. enters c.enter_each.result s c.args.payload.now c.in-Ok.entries.items c.enter_each.new.self c.in-Ok.ensures.found (c.enter_each.ensures.ok s is) (c.enter_each.ensures.leaves s is)
