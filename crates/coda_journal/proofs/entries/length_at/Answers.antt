use Rattle.std.proofs.Common.{rules}
use Rattle.coda_journal.specs.Lengths.{length_in}
use Rattle.coda_journal.proofs.entries.length_at.Goals as goal

pub returns-clause-found : goal.returns-clause-found
unfolding length_in
returns-clause-found c = search rules
