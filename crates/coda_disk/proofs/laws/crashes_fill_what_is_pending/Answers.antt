use Rattle.coda_disk.proofs.Fills.{pending_filled}
use Rattle.coda_disk.proofs.laws.crashes_fill_what_is_pending.Goals as goal

pub returns : goal.returns
returns c = pending_filled
