use Rattle.std.proofs.Common.{true, ap, ◌∙◌}
use Rattle.coda_cache.specs.State.{Holds}
use Rattle.coda_cache.specs.Indexed.{set_all}
use Rattle.coda_cache.proofs.Pinned.{pinned_holds}
use Rattle.coda_cache.proofs.holds.HoldTable.pin_of.Goals as goal

pub returns : goal.returns
returns c = c.set_all-2.ensures ∙ ap (λ (m : Holds). set_all c.args.volume true m c.args.fids.now) c.set_all.ensures ∙ pinned_holds c.args.volume c.args.self.now c.args.dirty.now c.args.fids.now c.requires
