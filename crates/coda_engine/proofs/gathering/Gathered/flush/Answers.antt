use Rattle.std.proofs.Common.{arith}
use Rattle.std.proofs.lemmas.List.{take_rest}
use Rattle.coda_engine.proofs.Forwarding.{forwards_front}
use Rattle.coda_engine.proofs.gathering.Gathered.flush.Goals as goal

-- what this call took waits no more
pub loop-self-preserved : goal.loop-self-preserved
loop-self-preserved g c =
    let bytes = c.loop-self.self.bytes.items in
    let taken = c.loop-self.self.taken in (
      forwards_front (g.K.Sink.held c.args.sink.now) (g.K.Sink.held c.loop-self.sink) (g.K.Sink.held c.write.new.self) _ bytes taken _ c.loop-self.invariant.0
          (rw (c.deref.ensures.value, take_rest bytes taken) at c.in_ok-taken.ensures.bytes),
      omega (arith, c.write.ensures.cause.later),
    )
