use Rattle.std.proofs.Common.{length}
use Rattle.coda_resolve.proofs.view.+with_views.Given as goal

abbrev pub decreases-with_views : goal.decreases-with_views
decreases-with_views l = length l.views.now
