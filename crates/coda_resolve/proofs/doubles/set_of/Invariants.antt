use Rattle.std.proofs.Common.{take}
use Rattle.coda_resolve.specs.Counted.{AreFids}
use Rattle.coda_resolve.proofs.doubles.set_of.Given as goal

abbrev pub invariant-loop-fid : goal.invariant-loop-fid
invariant-loop-fid l = AreFids l.set (take l.fid-index l.fids)
