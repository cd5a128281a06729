use Rattle.std.proofs.Common.{◌≡◌, List, Ok}
use Rattle.coda_tree.specs.Bindings.{Name}
use Rattle.coda_venus.specs.Looking.{resolve}
use Rattle.coda_venus.proofs.client.Client.leads_up.Given as goal

abbrev pub invariant-loop : goal.invariant-loop
invariant-loop l = (names : List Name) × (resolve l.self.cache.nodes l.at names ≡ Ok l.fn.fid)
