use Rattle.std.proofs.Common.{◌<◌, ◌^◌, take}
use Rattle.std.specs.List.{AllByRecursion}
use Rattle.coda_fid.specs.declared.fid.Fid.{Fid}
use Rattle.coda_vv.specs.Vector.{count}
use Rattle.coda_reslog.specs.declared.change.Held.{Held}
use Rattle.coda_repair.proofs.finding.has_room.Given as goal

abbrev pub invariant-loop-held : goal.invariant-loop-held
invariant-loop-held l = AllByRecursion (λ (o : Fid × Held). count o.1.vector.0 l.from < 2 ^ 63) (take l.held-index l.objects)
