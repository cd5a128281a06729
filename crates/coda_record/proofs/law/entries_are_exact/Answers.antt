use Rattle.coda_record.specs.Entries.{client_entry, client_payload, replica_entry}
use Rattle.coda_record.proofs.EntriesAgree.{client_entry_agrees, client_payload_agrees, replica_entry_agrees}
use Rattle.coda_values.proofs.Offsets.{agreeing_is_exact}
use Rattle.coda_record.proofs.law.entries_are_exact.Goals as goal

pub returns-clause-single : goal.returns-clause-single
returns-clause-single c = λ size. agreeing_is_exact (client_entry size) (client_entry_agrees size)

pub returns-clause-payload : goal.returns-clause-payload
returns-clause-payload c = λ size. agreeing_is_exact (client_payload size) (client_payload_agrees size)

pub returns-clause-replica : goal.returns-clause-replica
returns-clause-replica c = λ size. agreeing_is_exact (replica_entry size) (replica_entry_agrees size)
