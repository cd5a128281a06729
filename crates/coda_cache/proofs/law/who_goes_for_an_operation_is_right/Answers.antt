use Rattle.coda_cache.proofs.Afterwards.{goes_rightly_after, full_rightly}
use Rattle.coda_cache.proofs.law.who_goes_for_an_operation_is_right.Goals as goal

pub returns-clause-goes : goal.returns-clause-goes
returns-clause-goes c = λ s client volume rec log looked_up gone k may keeps is. goes_rightly_after s client volume rec log looked_up gone k may keeps is

pub returns-clause-full : goal.returns-clause-full
returns-clause-full c = λ s client volume rec log looked_up. full_rightly s client volume rec log looked_up
