use Rattle.coda_spelling.proofs.SpelledRecords.{records_are}
use Rattle.coda_spelling.proofs.lists_are_of_records.Goals as goal

pub returns : goal.returns
returns c = records_are
