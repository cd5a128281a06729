use Rattle.coda_runs.proofs.Misses.{missed_objects_are_out_of_reach}
use Rattle.coda_runs.proofs.laws.missed_objects_are_out_of_reach.Goals as goal

pub returns : goal.returns
returns c = missed_objects_are_out_of_reach
