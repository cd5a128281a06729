use Rattle.std.proofs.Common.{sym, subst}
use Rattle.coda_tree.specs.Volume.{content_patch}
use Rattle.coda_tree.specs.Slots.{Slots}
use Rattle.coda_tree.specs.Keeping.{IsKeptIn}
use Rattle.coda_tree.proofs.KeptSlots.{kept_slots_written}
use Rattle.coda_tree.proofs.body.Body.exchange.Goals as goal

pub invariant_of-self : goal.invariant_of-self
invariant_of-self c =
    subst (λ (s : Slots). IsKeptIn c.self.inside.number s) (sym c.exchange.ensures.content) (kept_slots_written c.self.inside.number c.self.inside.slots c.self.invariant c.args.fid (content_patch c.args.content c.args.mtime) c.args.sid)
