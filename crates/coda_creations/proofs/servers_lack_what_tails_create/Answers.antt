use Rattle.coda_creations.proofs.Lacking.{servers_lack as law}
use Rattle.coda_creations.proofs.servers_lack_what_tails_create.Goals as goal

pub returns : goal.returns
returns c = law
