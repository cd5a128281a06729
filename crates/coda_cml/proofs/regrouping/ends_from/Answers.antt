use Rattle.coda_cml.proofs.segments.WidestJoins.{last_ends}
use Rattle.coda_cml.proofs.regrouping.ends_from.Goals as goal

pub returns-in-Some : goal.returns-in-Some
returns-in-Some c = last_ends c.args.least c.args.joins.now c.in-Some.last.now c.in-Some.ensures.value
