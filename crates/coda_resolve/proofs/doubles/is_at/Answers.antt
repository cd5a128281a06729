use Rattle.std.proofs.Common.{sym, ◌∙◌}
use Rattle.coda_resolve.proofs.Counts.{value_found}
use Rattle.coda_resolve.proofs.doubles.is_at.Goals as goal

pub returns-in-Some : goal.returns-in-Some
returns-in-Some c = λ same. value_found c.args.entries.now c.args.place c.in-Some.field-0-0.now c.in-Some.bound c.args.fid c.in-Some.ensures.pair (sym c.eq.ensures ∙ same)
