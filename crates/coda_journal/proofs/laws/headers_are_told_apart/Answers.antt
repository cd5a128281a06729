use Rattle.coda_journal.proofs.Fields.{headers_are_told_apart}
use Rattle.coda_journal.proofs.laws.headers_are_told_apart.Goals as goal

pub returns : goal.returns
returns c = headers_are_told_apart
