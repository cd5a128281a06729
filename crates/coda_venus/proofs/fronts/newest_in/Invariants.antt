use Rattle.std.proofs.Common.{◌≡◌, max, drop}
use Rattle.coda_venus.specs.Times.{newest_in}
use Rattle.coda_venus.proofs.fronts.newest_in.Given as goal

abbrev pub invariant-loop-segment : goal.invariant-loop-segment
invariant-loop-segment l = max l.newest (newest_in (drop l.segment-index l.segments)) ≡ newest_in l.segments
