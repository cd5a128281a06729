use Rattle.coda_values.specs.Table.{reason, verdict}
use Rattle.coda_values.proofs.Offsets.{agreeing_is_exact}
use Rattle.coda_values.proofs.Tabled.{reason_agrees, verdict_agrees}
use Rattle.coda_values.proofs.law.verdicts_are_exact.Goals as goal

pub returns-clause-reason : goal.returns-clause-reason
returns-clause-reason c = agreeing_is_exact reason reason_agrees

pub returns-clause-verdict : goal.returns-clause-verdict
returns-clause-verdict c = agreeing_is_exact verdict verdict_agrees
