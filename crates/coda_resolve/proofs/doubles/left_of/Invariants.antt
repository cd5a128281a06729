use Rattle.std.proofs.Common.{take}
use Rattle.coda_resolve.specs.Counted.{AreLeftOf}
use Rattle.coda_resolve.proofs.doubles.left_of.Given as goal

abbrev pub invariant-loop-fid : goal.invariant-loop-fid
invariant-loop-fid l = AreLeftOf l.entries (take l.fid-index l.fids) l.left.items
