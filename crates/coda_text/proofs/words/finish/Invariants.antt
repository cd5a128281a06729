use Rattle.std.proofs.Common.{length, drop, ◌-◌, ◌≡◌, ◌<◌, ◌≤◌}
use Rattle.std.specs.Prelude.{slice_range}
use Rattle.coda_text.specs.Words.{scan, under_way}
use Rattle.coda_text.specs.Steps.{rest_of_word}
use Rattle.coda_text.proofs.words.finish.Given as goal

abbrev pub invariant-loop-part : goal.invariant-loop-part
invariant-loop-part l = record {
  after : l.start < l.at;
  within : l.at ≤ length l.line;
  same : rest_of_word l.line l.start l.fn.first ≡ scan (under_way l.start (slice_range l.line l.start l.at) l.part) l.at (drop l.at l.line);
}

abbrev pub decreases-loop-part : goal.decreases-loop-part
decreases-loop-part l = length l.line - l.at
