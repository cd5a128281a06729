use Rattle.std.proofs.Common.{◌-◌, ◌≤◌}
use Rattle.coda_engine.specs.Reading.{Goes}
use Rattle.coda_engine.specs.Place.{place}
use Rattle.coda_engine.proofs.running.run_pieces.Given as goal

-- the bytes read so far are run, and their report is written
abbrev pub invariant-loop-reader : goal.invariant-loop-reader
invariant-loop-reader g l =
    Goes g.M.Machine.gives l.initial.machine (g.S.Source.left l.initial.source) (g.S.Source.left l.source) (g.K.Sink.held l.initial.sink) (g.K.Sink.held l.sink) (place l.machine l.reader)
    × (g.S.Source.faults l.initial.source ≤ g.S.Source.faults l.source)
    × (g.K.Sink.faults l.initial.sink ≤ g.K.Sink.faults l.sink)
    × (g.M.Machine.faults l.initial.machine ≤ g.M.Machine.faults l.machine)
    × g.M.Machine.follows l.initial.machine l.machine
    × g.M.Machine.ready l.machine l.reader.lines

abbrev pub decreases-loop-reader : goal.decreases-loop-reader
decreases-loop-reader g l = 16777216 - l.reader.bytes
