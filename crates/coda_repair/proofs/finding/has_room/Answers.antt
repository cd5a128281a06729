use Rattle.std.proofs.Common.{◌<◌, ◌^◌, subst}
use Rattle.coda_fid.specs.declared.fid.Fid.{Fid}
use Rattle.coda_vv.specs.Vector.{count}
use Rattle.coda_reslog.specs.declared.change.Held.{Held}
use Rattle.coda_repair.proofs.Ways.{all_more}
use Rattle.coda_repair.proofs.finding.has_room.Goals as goal

pub loop-held-preserved : goal.loop-held-preserved
loop-held-preserved c = all_more (λ (o : Fid × Held). count o.1.vector.0 c.args.from < 2 ^ 63) c.args.objects.now c.loop-held.held-index c.loop-held-item.result c.loop-held-test.true c.loop-held.invariant (subst (λ (o : Fid × Held). count o.1.vector.0 c.args.from < 2 ^ 63) c.loop-held-item.is (subst (λ n. n < 2 ^ 63) c.count.ensures c.if-count-ge-MANY.false))
