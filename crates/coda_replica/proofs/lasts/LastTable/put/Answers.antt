use Rattle.std.proofs.Common.{sym, ap, ◌∙◌}
use Rattle.std.specs.FinMap as map
use Rattle.coda_replica.specs.State.{Lasts}
use Rattle.coda_replica.proofs.Keyed.{get_keyed, keyed_put}
use Rattle.coda_replica.proofs.lasts.LastTable.put.Goals as goal

pub returns-clause-ok : goal.returns-clause-ok
returns-clause-ok c = keyed_put c.self.inside.lasts.entries c.insert.new.self.entries c.args.last.client c.args.last c.in_ok-insert.ensures.updates.0 ∙ ap (λ (m : Lasts). map.insert m c.args.last.client c.args.last) c.self.view_is

pub returns-clause-was : goal.returns-clause-was
returns-clause-was c = c.in_ok-insert.ensures.old ∙ sym (get_keyed c.self.inside.lasts.entries c.args.last.client) ∙ ap (λ (m : Lasts). map.get m c.args.last.client) c.self.view_is
