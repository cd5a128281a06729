use Rattle.coda_cml.proofs.segments.PartedRecords.{segments_part}
use Rattle.coda_cml.proofs.law.segments_part_the_fold.Goals as goal

pub returns : goal.returns
returns c = segments_part
