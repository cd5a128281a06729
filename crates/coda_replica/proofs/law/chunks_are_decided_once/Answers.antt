use Rattle.std.proofs.Common.{[], subst}
use Rattle.coda_replica.specs.Comes.{history_of}
use Rattle.coda_plain.proofs.Once.{DoDiffer, differ}
use Rattle.coda_replica.proofs.Repeats.{lawful_all, two_differ}
use Rattle.coda_replica.proofs.law.chunks_are_decided_once.Goals as goal

pub returns : goal.returns
returns c = record {
  once = λ volume chunks front middle back first second are. two_differ front middle back first second (subst DoDiffer are (differ volume (history_of volume [] chunks) (lawful_all volume [] chunks tt)));
  in_order = lawful_all;
}
