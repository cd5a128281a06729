use Rattle.coda_plain.proofs.Freshness.{next_objects_are_fresh}
use Rattle.coda_plain.proofs.laws.next_objects_are_fresh.Goals as goal

pub returns : goal.returns
returns c = next_objects_are_fresh
