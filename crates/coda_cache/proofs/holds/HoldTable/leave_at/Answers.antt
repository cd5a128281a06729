use Rattle.std.proofs.Common.{ap, ◌∙◌}
use Rattle.coda_tree.specs.Slots.{altered}
use Rattle.coda_tree.proofs.Keyed.{keyed_altered}
use Rattle.coda_cache.specs.State.{Holds}
use Rattle.coda_cache.specs.Steps.{valid_but_from}
use Rattle.coda_cache.proofs.holds.HoldTable.leave_at.Goals as goal

pub returns : goal.returns
returns c = keyed_altered c.self.inside.holds.entries c.leave_at.new.holds.entries c.args.fid (valid_but_from c.args.volume c.args.server c.args.fid) c.leave_at.ensures ∙ ap (λ (m : Holds). altered m c.args.fid (valid_but_from c.args.volume c.args.server c.args.fid)) c.self.view_is
