use Rattle.coda_copies.proofs.Entries.{copies_led as law}
use Rattle.coda_copies.proofs.copies_stay_overlaid.Goals as goal

pub returns : goal.returns
returns c = law
