use Rattle.std.proofs.Common.{◌∙◌, ap, sym, subst}
use Rattle.std.specs.Map.{values_of}
use Rattle.coda_hdb.specs.Kept.{AreKept}
use Rattle.coda_hdb.proofs.Places.{stored, kept_stored}
use Rattle.coda_hdb.proofs.database.store.Goals as goal

pub returns-clause-ok : goal.returns-clause-ok
returns-clause-ok c = ap values_of c.in_ok-insert.ensures.entries ∙ stored c.args.place c.args.entry c.requires.place c.args.entries.now.entries c.requires.kept

pub returns-clause-kept : goal.returns-clause-kept
returns-clause-kept c = subst AreKept (sym c.in_ok-insert.ensures.entries) (kept_stored c.args.place c.args.entry c.requires.place c.args.entries.now.entries c.requires.kept c.requires.room)
