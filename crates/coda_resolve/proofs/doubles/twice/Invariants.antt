use Rattle.std.proofs.Common.{take}
use Rattle.coda_resolve.specs.Counted.{AreTwice}
use Rattle.coda_resolve.proofs.doubles.twice.Given as goal

abbrev pub invariant-loop-fid : goal.invariant-loop-fid
invariant-loop-fid l = AreTwice l.once l.twice (take l.fid-index l.fids)
