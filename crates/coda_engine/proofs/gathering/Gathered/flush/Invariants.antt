use Rattle.std.proofs.Common.{[], ◌-◌, ◌≤◌, vec_len}
use Rattle.coda_engine.specs.Gathering.{Forwards}
use Rattle.coda_engine.specs.Waiting.{waiting}
use Rattle.coda_engine.proofs.gathering.Gathered.flush.Given as goal

-- what the sink took waits no more, and no fault is forgotten
abbrev pub invariant-loop-self : goal.invariant-loop-self
invariant-loop-self g l =
    Forwards (g.K.Sink.held l.initial.sink) (g.K.Sink.held l.sink) (waiting l.initial.self) (waiting l.self) []
    × (g.K.Sink.faults l.initial.sink ≤ g.K.Sink.faults l.sink)

abbrev pub decreases-loop-self : goal.decreases-loop-self
decreases-loop-self g l = vec_len l.self.bytes - l.self.taken
