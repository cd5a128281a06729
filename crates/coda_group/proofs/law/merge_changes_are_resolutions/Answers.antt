use Rattle.coda_group.proofs.Merged.{merge_changes_are_resolutions}
use Rattle.coda_group.proofs.law.merge_changes_are_resolutions.Goals as goal

pub returns : goal.returns
returns c = merge_changes_are_resolutions
