use Rattle.std.proofs.Common.{length, drop, ◌-◌, ◌≡◌, ◌<◌, ◌≤◌}
use Rattle.std.specs.Prelude.{slice_range}
use Rattle.coda_text.specs.declared.words.Part.TheVariants.{Bare}
use Rattle.coda_text.specs.Words.{scan, under_way}
use Rattle.coda_text.specs.Steps.{rest_of_word}
use Rattle.coda_text.proofs.words.finish_bare.Given as goal

abbrev pub invariant-loop-at : goal.invariant-loop-at
invariant-loop-at l = record {
  after : l.start < l.at;
  within : l.at ≤ length l.line;
  same : rest_of_word l.line l.start Bare ≡ scan (under_way l.start (slice_range l.line l.start l.at) Bare) l.at (drop l.at l.line);
}

abbrev pub decreases-loop-at : goal.decreases-loop-at
decreases-loop-at l = length l.line - l.at
