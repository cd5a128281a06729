use Rattle.std.proofs.Common.{sym, ap, ◌∙◌}
use Rattle.std.specs.FinMap as map
use Rattle.coda_replica.specs.State.{Lasts}
use Rattle.coda_replica.proofs.Keyed.{get_keyed}
use Rattle.coda_replica.proofs.lasts.LastTable.get.Goals as goal

pub returns : goal.returns
returns c = c.copied.ensures ∙ c.get.ensures.value ∙ sym (get_keyed c.self.inside.lasts.entries c.args.client) ∙ ap (λ (m : Lasts). map.get m c.args.client) c.self.view_is
