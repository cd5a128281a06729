use Rattle.coda_cml.proofs.runs.JoinedNumbers.{cut_fact}
use Rattle.std.proofs.Common.{[], ◌++◌}
use Rattle.coda_cml.proofs.runs.FrontFolds.{prefix}
use Rattle.coda_cml.proofs.law.segments_are_their_folds.Goals as goal

pub returns : goal.returns
returns c = λ j front back a b n. prefix j front back a b (cut_fact j [] (front ++ back) n)
