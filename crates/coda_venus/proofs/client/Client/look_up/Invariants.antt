use Rattle.std.proofs.Common.{◌≡◌, ◌++◌, drop}
use Rattle.coda_venus.specs.Caching.{served_nodes}
use Rattle.coda_venus.specs.Serving.{looked_up}
use Rattle.coda_venus.proofs.client.Client.look_up.Given as goal

abbrev pub invariant-loop-name : goal.invariant-loop-name
invariant-loop-name l =
    l.fids.items ++ looked_up (served_nodes l.emulating l.self) l.at (drop l.name-index l.names)
    ≡ l.fn.fids.items ++ looked_up (served_nodes l.emulating l.self) l.fn.from l.names
