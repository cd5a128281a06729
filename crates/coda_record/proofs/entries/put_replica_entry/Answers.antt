use Rattle.std.proofs.Common.{subst}
use Rattle.coda_record.specs.declared.entry.ReplicaEntry.{ReplicaEntry}
use Rattle.coda_record.specs.Spelling.{HasSpelling}
use Rattle.coda_record.specs.Entries.{replica_entry}
use Rattle.coda_record.specs.Form.{four}
use Rattle.coda_record.proofs.InEntries.{resolve_change, resolve_lasts, repair_change, repair_lasts, snapshot_objects, snapshot_lasts}
use Rattle.coda_record.proofs.entries.put_replica_entry.Goals as goal

pub put_change-requires : goal.put_change-requires
put_change-requires c = resolve_change c.in-Resolve.change c.in-Resolve.lasts (subst (λ (e : ReplicaEntry). HasSpelling (replica_entry four) e) c.in-Resolve.is c.requires)
