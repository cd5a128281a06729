use Rattle.std.proofs.Common.{length, take, ◌-◌, ◌≤◌}
use Rattle.coda_engine.specs.Gathering.{Gathers}
use Rattle.coda_engine.specs.Place.{place}
use Rattle.coda_engine.specs.Waiting.{waiting}
use Rattle.coda_engine.proofs.reader.Reader.take.Given as goal

-- the bytes so far are taken
abbrev pub invariant-loop-at : goal.invariant-loop-at
invariant-loop-at g l =
    (l.at ≤ length l.piece)
    × Gathers g.M.Machine.gives (g.K.Sink.held l.initial.sink) (g.K.Sink.held l.sink) (waiting l.initial.gathered) (waiting l.gathered) (place l.initial.machine l.initial.self) (take l.at l.piece) (place l.machine l.self)
    × (g.K.Sink.faults l.initial.sink ≤ g.K.Sink.faults l.sink)
    × (g.M.Machine.faults l.initial.machine ≤ g.M.Machine.faults l.machine)
    × g.M.Machine.follows l.initial.machine l.machine
    × g.M.Machine.ready l.machine l.self.lines

abbrev pub decreases-loop-at : goal.decreases-loop-at
decreases-loop-at g l = length l.piece - l.at
