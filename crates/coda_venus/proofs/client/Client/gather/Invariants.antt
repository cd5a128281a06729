use Rattle.coda_venus.proofs.Reached.{GathersTo}
use Rattle.coda_venus.proofs.client.Client.gather.Given as goal

abbrev pub invariant-loop-index : goal.invariant-loop-index
invariant-loop-index l = GathersTo l.self.cache.nodes l.fn.met.keys l.entries l.index l.met.keys
