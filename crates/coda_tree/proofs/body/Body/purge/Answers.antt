use Rattle.std.proofs.Common.{sym, subst}
use Rattle.coda_tree.specs.Slots.{Slots}
use Rattle.coda_tree.specs.Keeping.{IsKeptIn}
use Rattle.coda_tree.proofs.KeptSlots.{kept_slots_purged}
use Rattle.coda_tree.proofs.body.Body.purge.Goals as goal

pub invariant_of-self : goal.invariant_of-self
invariant_of-self c = subst (λ (s : Slots). IsKeptIn c.self.inside.number s) (sym c.purge.ensures) (kept_slots_purged c.self.inside.number c.self.inside.slots c.self.invariant c.args.fid)
