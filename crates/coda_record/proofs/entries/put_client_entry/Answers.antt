use Rattle.std.proofs.Common.{subst}
use Rattle.coda_record.specs.declared.entry.ClientEntry.{ClientEntry}
use Rattle.coda_record.specs.Spelling.{HasSpelling}
use Rattle.coda_record.specs.Entries.{client_entry}
use Rattle.coda_record.specs.Form.{four}
use Rattle.coda_record.proofs.InEntries.{entry_op, entry_snapshot}
use Rattle.coda_record.proofs.entries.put_client_entry.Goals as goal

pub put_record-requires : goal.put_record-requires
put_record-requires c = entry_op c.in-Op.volume c.in-Op.rec (subst (λ (e : ClientEntry). HasSpelling (client_entry four) e) c.in-Op.is c.requires)

pub put_client_snapshot-requires : goal.put_client_snapshot-requires
put_client_snapshot-requires c = entry_snapshot c.in-Snapshot.snapshot (subst (λ (e : ClientEntry). HasSpelling (client_entry four) e) c.in-Snapshot.is c.requires)
