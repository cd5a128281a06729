use Rattle.std.proofs.Common.{ℕ, Option, sym, ap, ◌∙◌}
use Rattle.std.specs.Option.{unwrap_or}
use Rattle.std.specs.FinMap as map
use Rattle.coda_cache.proofs.Ordered.{get_keyed}
use Rattle.coda_cache.specs.State.{Priorities}
use Rattle.coda_cache.proofs.priorities.PriorityTable.get.Goals as goal

pub returns : goal.returns
returns c = c.unwrap_or.ensures ∙ ap (λ (o : Option ℕ). unwrap_or o 0) (c.copied.ensures ∙ c.get.ensures.value ∙ sym (get_keyed c.self.inside.priorities.entries c.args.fid) ∙ ap (λ (m : Priorities). map.get m c.args.fid) c.self.view_is)
