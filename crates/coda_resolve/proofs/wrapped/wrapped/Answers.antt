use Rattle.std.proofs.Common.{◌∙◌, map, option_copied}
use Rattle.coda_resolve.proofs.Gaps.{absent_unlogged}
use Rattle.coda_resolve.proofs.wrapped.wrapped.Goals as goal

pub returns : goal.returns
returns c = c.least_absent.ensures ∙ absent_unlogged _ (map option_copied c.args.copies.now) c.in_ok-logged.ensures
