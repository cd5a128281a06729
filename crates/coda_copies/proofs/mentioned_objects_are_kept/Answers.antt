use Rattle.coda_copies.proofs.Mentions.{mentioned_are_kept as law}
use Rattle.coda_copies.proofs.mentioned_objects_are_kept.Goals as goal

pub returns : goal.returns
returns c = law
