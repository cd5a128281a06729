use Rattle.std.proofs.Common.{◌∙◌}
use Rattle.coda_cache.proofs.Sourced.{left_holds}
use Rattle.coda_cache.proofs.holds.HoldTable.invalidate_among.Goals as goal

pub returns : goal.returns
returns c = c.leave_all.ensures ∙ left_holds c.args.volume c.args.server c.args.self.now c.args.fids.now c.requires
