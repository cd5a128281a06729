use Rattle.std.proofs.Common.{◌≡◌, drop}
use Rattle.coda_venus.specs.Caching.{served_nodes}
use Rattle.coda_venus.specs.Looking.{resolve}
use Rattle.coda_venus.proofs.client.Client.follow.Given as goal

abbrev pub invariant-loop-name : goal.invariant-loop-name
invariant-loop-name l = resolve (served_nodes l.emulating l.self) l.at (drop l.name-index l.names) ≡ resolve (served_nodes l.emulating l.self) l.fn.from l.names
