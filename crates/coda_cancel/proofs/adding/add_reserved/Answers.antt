use Rattle.std.proofs.Common.{sym, ◌∙◌}
use Rattle.coda_cancel.proofs.Additions.{plain_added}
use Rattle.coda_cancel.proofs.adding.add_reserved.Goals as goal

pub returns-in_default-clause-records : goal.returns-in_default-clause-records
returns-in_default-clause-records c = c.push.ensures.records ∙ plain_added c.args.shelf.now.records c.args.rec (sym c.carried.ensures ∙ c.in_default.is)
