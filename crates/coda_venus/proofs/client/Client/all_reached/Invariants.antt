use Rattle.std.proofs.Common.{◌-◌, ◌^◌}
use Rattle.coda_venus.proofs.Reached.{Searched}
use Rattle.coda_venus.proofs.client.Client.all_reached.Given as goal

abbrev pub invariant-loop-index : goal.invariant-loop-index
invariant-loop-index l = Searched l.self.cache.nodes l.volume l.met.keys l.index

abbrev pub decreases-loop-index : goal.decreases-loop-index
decreases-loop-index l = 2 ^ 64 - l.index
