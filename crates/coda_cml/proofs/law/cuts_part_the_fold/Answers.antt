use Rattle.std.proofs.Common.{[], ◌++◌}
use Rattle.coda_cml.proofs.runs.JoinedNumbers.{cut_fact}
use Rattle.coda_cml.proofs.segments.FrozenFronts.{fold_apart}
use Rattle.coda_cml.proofs.law.cuts_part_the_fold.Goals as goal

pub returns : goal.returns
returns c = λ number front back s a b n. fold_apart number front back s a b (cut_fact number [] (front ++ back) n)
