use Rattle.std.proofs.Common.{◌≡◌}
use Rattle.std.specs.Map.{values_of}
use Rattle.coda_hdb.specs.Database.{has_place}
use Rattle.coda_hdb.proofs.names.has_entry.Given as goal

abbrev pub invariant-loop-entry : goal.invariant-loop-entry
invariant-loop-entry l = has_place (values_of l.entries.entries) l.volume l.path ≡ has_place l.entry-iterator l.volume l.path
