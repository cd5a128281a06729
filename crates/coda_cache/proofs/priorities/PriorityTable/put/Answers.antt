use Rattle.std.proofs.Common.{ap, ◌∙◌}
use Rattle.std.specs.FinMap as map
use Rattle.coda_cache.specs.State.{Priorities}
use Rattle.coda_cache.proofs.Ordered.{keyed_put}
use Rattle.coda_cache.proofs.priorities.PriorityTable.put.Goals as goal

pub returns : goal.returns
returns c = keyed_put c.self.inside.priorities.entries c.insert.new.self.entries c.args.fid c.args.priority c.in_ok-insert.ensures.updates.0 ∙ ap (λ (m : Priorities). map.insert m c.args.fid c.args.priority) c.self.view_is
