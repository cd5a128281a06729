use Rattle.std.proofs.Common.{◌<◌, ◌^◌, subst, sym}
use Rattle.coda_vv.specs.Vector.{count}
use Rattle.coda_repair.proofs.Vectors.{updates_less}
use Rattle.coda_repair.proofs.updates.repaired.Goals as goal

pub bump-vector-requires-clause-room : goal.bump-vector-requires-clause-room
bump-vector-requires-clause-room c = subst (λ v. count v c.args.from < 2 ^ 63) (sym c.updates.ensures.same) (updates_less c.args.views.now c.args.from c.args.fid c.requires.order c.requires.room)
