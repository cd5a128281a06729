use Rattle.coda_record.specs.Table.{answer, last_above, lasts}
use Rattle.coda_record.proofs.Decided.{answer_agrees, last_agrees, lasts_agree}
use Rattle.coda_values.proofs.Offsets.{agreeing_is_exact}
use Rattle.coda_record.proofs.law.decisions_are_exact.Goals as goal

pub returns-clause-single : goal.returns-clause-single
returns-clause-single c = λ before. agreeing_is_exact (last_above before) (last_agrees before)

pub returns-clause-lasts : goal.returns-clause-lasts
returns-clause-lasts c = agreeing_is_exact lasts lasts_agree

pub returns-clause-answer : goal.returns-clause-answer
returns-clause-answer c = agreeing_is_exact answer answer_agrees
