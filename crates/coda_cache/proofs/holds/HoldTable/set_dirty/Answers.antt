use Rattle.std.proofs.Common.{ap, ◌∙◌}
use Rattle.coda_tree.specs.Slots.{altered}
use Rattle.coda_tree.proofs.Keyed.{keyed_altered}
use Rattle.coda_cache.specs.State.{Holds}
use Rattle.coda_cache.specs.Steps.{set_dirty}
use Rattle.coda_cache.proofs.holds.HoldTable.set_dirty.Goals as goal

pub returns : goal.returns
returns c = keyed_altered c.self.inside.holds.entries c.set_dirty.new.holds.entries c.args.fid (set_dirty c.args.dirty) c.set_dirty.ensures ∙ ap (λ (m : Holds). altered m c.args.fid (set_dirty c.args.dirty)) c.self.view_is
