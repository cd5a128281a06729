use Rattle.coda_resolve.proofs.After.{as_fated}
use Rattle.coda_resolve.proofs.law.changes_leave_equal_or_marked.Goals as goal

pub returns : goal.returns
returns c = as_fated
