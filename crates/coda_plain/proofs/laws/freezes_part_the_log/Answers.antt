use Rattle.coda_plain.proofs.Parting.{freezes_part_the_log}
use Rattle.coda_plain.proofs.laws.freezes_part_the_log.Goals as goal

pub returns : goal.returns
returns c = freezes_part_the_log
