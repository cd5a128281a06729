use Rattle.coda_journal.proofs.Images.{as_not_foreign, as_once}
use Rattle.coda_journal.proofs.laws.readings_are_not_foreign.Goals as goal

pub returns : goal.returns
returns c = λ header image payloads others ok is. (λ at foreign. as_not_foreign header image ok payloads at is foreign, λ also. as_once header image ok payloads others is also)
