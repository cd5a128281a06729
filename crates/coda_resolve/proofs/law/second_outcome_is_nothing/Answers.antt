use Rattle.coda_resolve.proofs.After.{second_is_nothing}
use Rattle.coda_resolve.proofs.law.second_outcome_is_nothing.Goals as goal

pub returns : goal.returns
returns c = λ views root changes again marks touched history are out. second_is_nothing views root changes history are again marks touched out
