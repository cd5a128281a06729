use Rattle.std.proofs.Common.{arith, subst}
use Rattle.coda_record.specs.Form.{four}
use Rattle.coda_record.specs.Outcome.{Reads}
use Rattle.coda_record.specs.Entries.{replica_entry}
use Rattle.coda_values.proofs.Laws.{spelled_is_whole}
use Rattle.coda_record.proofs.Found.{is_found}
use Rattle.coda_record.proofs.EntriesAgree.{replica_entry_agrees}
use Rattle.coda_record.proofs.entries.read_replica.Goals as goal

pub returns-clause-found : goal.returns-clause-found
returns-clause-found c = is_found (replica_entry four) (replica_entry_agrees four) (λ e. e) c.args.bytes.now c.replica_entry_said.result (λ i. omega (arith, c.type_inv.bytes i)) c.replica_entry_said.ensures

pub returns-clause-only : goal.returns-clause-only
returns-clause-only c = λ e s. subst (λ said. Reads (λ x. x) c.replica_entry_said.result said) (spelled_is_whole (replica_entry four) (replica_entry_agrees four) c.args.bytes.now e s) c.replica_entry_said.ensures
