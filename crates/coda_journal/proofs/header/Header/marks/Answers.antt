use Rattle.std.proofs.Common.{rules}
use Rattle.coda_journal.specs.Header.{marks}
use Rattle.coda_journal.proofs.header.Header.marks.Goals as goal

pub returns-clause-bytes : goal.returns-clause-bytes
unfolding marks
returns-clause-bytes c = search rules

pub returns-clause-size : goal.returns-clause-size
returns-clause-size c = search rules
