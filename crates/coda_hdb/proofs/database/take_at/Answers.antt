use Rattle.std.proofs.Common.{◌∙◌, ap, sym, subst, is_some}
use Rattle.std.specs.Map.{values_of}
use Rattle.coda_hdb.specs.Kept.{AreKept}
use Rattle.coda_hdb.proofs.Places.{looked, taken, kept_taken}
use Rattle.coda_hdb.proofs.database.take_at.Goals as goal

pub returns-clause-there : goal.returns-clause-there
returns-clause-there c volume path of = c.is_some.ensures ∙ ap is_some c.shift_remove.ensures.value ∙ looked c.args.place.now volume path of c.args.entries.now.entries c.requires.placed

pub returns-clause-taken : goal.returns-clause-taken
returns-clause-taken c volume path of = ap values_of c.shift_remove.ensures.entries ∙ taken c.args.place.now volume path of c.args.entries.now.entries c.requires

pub returns-clause-kept : goal.returns-clause-kept
returns-clause-kept c volume path of = subst AreKept (sym c.shift_remove.ensures.entries) (kept_taken c.args.place.now volume path of c.args.entries.now.entries c.requires)
