use Rattle.std.proofs.Common.{arith, subst}
use Rattle.coda_record.specs.Form.{four}
use Rattle.coda_record.specs.Outcome.{Reads}
use Rattle.coda_record.specs.Entries.{client_payload}
use Rattle.coda_values.proofs.Laws.{spelled_is_whole}
use Rattle.coda_record.proofs.Found.{is_found}
use Rattle.coda_record.proofs.EntriesAgree.{client_payload_agrees}
use Rattle.coda_record.proofs.entries.read_client.Goals as goal

pub returns-clause-found : goal.returns-clause-found
returns-clause-found c = is_found (client_payload four) (client_payload_agrees four) (λ v. v.items) c.args.bytes.now c.client_payload_said.result (λ i. omega (arith, c.type_inv.bytes i)) c.client_payload_said.ensures

pub returns-clause-only : goal.returns-clause-only
returns-clause-only c = λ es s. subst (λ said. Reads (λ v. v.items) c.client_payload_said.result said) (spelled_is_whole (client_payload four) (client_payload_agrees four) c.args.bytes.now es s) c.client_payload_said.ensures
