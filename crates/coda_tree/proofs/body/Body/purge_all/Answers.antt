use Rattle.std.proofs.Common.{sym, subst}
use Rattle.coda_tree.specs.Slots.{Slots}
use Rattle.coda_tree.specs.Keeping.{IsKeptIn}
use Rattle.coda_tree.proofs.UndoneAll.{kept_purged_all}
use Rattle.coda_tree.proofs.body.Body.purge_all.Goals as goal

pub invariant_of-self : goal.invariant_of-self
invariant_of-self c = subst (λ (s : Slots). IsKeptIn c.self.inside.number s) (sym c.purge_all.ensures) (kept_purged_all c.self.inside.number c.self.inside.slots c.args.undos.items c.self.invariant)
