use Rattle.coda_journal.proofs.Fields.{headers_say_their_fields}
use Rattle.coda_journal.proofs.laws.headers_say_their_fields.Goals as goal

pub returns : goal.returns
returns c = headers_say_their_fields
