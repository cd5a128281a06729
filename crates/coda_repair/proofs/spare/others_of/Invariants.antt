use Rattle.std.proofs.Common.{take}
use Rattle.std.specs.FinMap as finmap
use Rattle.coda_resolve.specs.Counted.{has_fid}
use Rattle.coda_repair.proofs.Sparing.{AreOut}
use Rattle.coda_repair.proofs.spare.others_of.Given as goal

abbrev pub invariant-loop-index : goal.invariant-loop-index
invariant-loop-index l = AreOut (has_fid l.subtree) l.top l.entries (take l.index (finmap.entries l.entries)) l.others
