use Rattle.coda_resolve.proofs.Sameness.{front_same}
use Rattle.coda_resolve.proofs.same.same_ring.Goals as goal

pub loop-index-preserved : goal.loop-index-preserved
loop-index-preserved c = record {
  front = front_same c.args.one.now c.args.other.now c.loop-index.index c.if-not-same_update_at.ensures c.loop-index.invariant.front;
  long = c.loop-index.invariant.long;
}
