use Rattle.coda_runs.proofs.Running.{volumes_in_one_row_are_done_once}
use Rattle.coda_runs.proofs.laws.volumes_in_one_row_are_done_once.Goals as goal

pub returns : goal.returns
returns c = volumes_in_one_row_are_done_once
