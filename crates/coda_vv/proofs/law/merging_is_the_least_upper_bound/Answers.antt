use Rattle.coda_vv.proofs.Order.{merging_is_the_least_upper_bound}
use Rattle.coda_vv.proofs.law.merging_is_the_least_upper_bound.Goals as goal

pub returns : goal.returns
returns c = merging_is_the_least_upper_bound
