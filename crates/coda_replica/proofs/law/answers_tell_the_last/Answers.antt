use Rattle.coda_replica.proofs.Repeats.{missing_is, passed_is, next_is, kept_is}
use Rattle.coda_replica.proofs.law.answers_tell_the_last.Goals as goal

pub returns : goal.returns
returns c = record { missing = missing_is; passed = passed_is; next = next_is; kept = kept_is }
