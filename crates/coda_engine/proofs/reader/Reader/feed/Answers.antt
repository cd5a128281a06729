use Rattle.coda_engine.specs.Place.{place}
use Rattle.coda_engine.specs.declared.status.Status.TheVariants.{SinkFault}
use Rattle.coda_engine.proofs.Forwarding.{few_wait, flush_advances, flush_stops, leaves_same, closed_leaves, close_stops}
use Rattle.coda_engine.proofs.reader.Reader.feed.Goals as goal

pub returns-in-Ok-flush-clause-ok : goal.returns-in-Ok-flush-clause-ok
returns-in-Ok-flush-clause-ok g c =
    flush_advances _ _ _ _ _ _ (place c.args.machine.now c.args.self.now) (place c.take.new.machine c.take.new.self) _ c.new-gathered.ensures c.in-Ok.ensures.ok c.flush.ensures.sent c.in-Ok-flush.ensures.ok

pub returns-in-Ok-clause-stops : goal.returns-in-Ok-clause-stops
returns-in-Ok-clause-stops g c =
    let left = c.flush.new.self in (
      c.take.new.machine,
      flush_stops g.M.Machine.gives g.M.Machine.refuses _ _ _ _ _ _ (place c.args.machine.now c.args.self.now) (place c.take.new.machine c.take.new.self) _ c.new-gathered.ensures c.in-Ok.ensures.ok c.flush.ensures.sent c.in-Err-flush.ensures.err (few_wait left.bytes.items left.taken _ left.bytes.ok.0 left.few),
      leaves_same c.take.new.machine SinkFault (λ e. cc),
    )

pub returns-clause-stops : goal.returns-clause-stops
returns-clause-stops g c =
    let left = c.close.new.self in
    let stops = c.in-Err.ensures.stops in (
      stops.0,
      close_stops g.M.Machine.gives g.M.Machine.refuses _ _ _ _ _ _ (place c.args.machine.now c.args.self.now) _ _ _ _ c.new-gathered.ensures stops.1 c.close.ensures.sent (few_wait left.bytes.items left.taken _ left.bytes.ok.0 left.few) c.close.ensures.closes,
      closed_leaves stops.0 c.take.new.machine _ _ _ _ c.close.ensures.closes stops.2,
    )
