use Rattle.coda_creations.proofs.OneKind.{kinds_kept as law}
use Rattle.coda_creations.proofs.objects_keep_their_kind.Goals as goal

pub returns : goal.returns
returns c = law
