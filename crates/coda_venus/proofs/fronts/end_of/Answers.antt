use Rattle.std.proofs.Common.{ap, ◌∙◌}
use Rattle.coda_cml.specs.declared.segment.Segment.{Segment}
use Rattle.coda_cml.proofs.segments.WhereJoiningEnds.{last_end}
use Rattle.coda_venus.proofs.fronts.end_of.Goals as goal

pub returns-in-Some : goal.returns-in-Some
returns-in-Some c = let h = c.in-Some.ensures.item in ap (λ (s : Segment). s.last) h.1 ∙ last_end c.args.segments.now c.in-Some.segment.now h.3.0
