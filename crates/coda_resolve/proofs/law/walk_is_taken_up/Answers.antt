use Rattle.std.proofs.Common.{refl}
use Rattle.coda_resolve.specs.Resolution.{at_root}
use Rattle.coda_resolve.specs.Outcome.{levels_of}
use Rattle.coda_resolve.proofs.Walked.{walk_is_taken_up}
use Rattle.coda_resolve.proofs.Complete.{taken_up_is_met}
use Rattle.coda_resolve.proofs.Single.{met_once}
use Rattle.coda_resolve.proofs.law.walk_is_taken_up.Goals as goal

pub returns : goal.returns
returns c = record {
  nothing_else = λ views root f s. walk_is_taken_up (levels_of views) views root root f (at_root root refl) s;
  all = taken_up_is_met;
  once = met_once;
}
