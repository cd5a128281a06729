use Rattle.std.proofs.Common.{[]}
use Rattle.coda_resolve.proofs.Stamped.{none_stamped}
use Rattle.coda_resolve.proofs.stamps.logged.Goals as goal

pub returns : goal.returns
returns c = c.in_ok-add_copies.ensures [] (none_stamped c.new-stamps.result c.new-stamps.ensures.empty)
