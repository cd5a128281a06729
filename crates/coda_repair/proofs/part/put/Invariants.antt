use Rattle.std.proofs.Common.{take}
use Rattle.coda_resolve.specs.Resolution.{copies_at}
use Rattle.coda_resolve.specs.Views.{objects_of, replicas_of}
use Rattle.coda_repair.specs.Making.{ArePut}
use Rattle.coda_repair.proofs.part.put.Given as goal

abbrev pub invariant-loop-fid : goal.invariant-loop-fid
invariant-loop-fid l = ArePut l.from (copies_at (replicas_of l.views)) (objects_of l.right) (take l.fid-index l.fids) l.held
