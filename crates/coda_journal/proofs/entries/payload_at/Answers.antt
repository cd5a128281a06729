use Rattle.std.proofs.Common.{arith}
use Rattle.coda_journal.proofs.ReadTo.{found_payload}
use Rattle.coda_journal.proofs.entries.payload_at.Goals as goal

pub returns-clause-found : goal.returns-clause-found
returns-clause-found c =
    let found = c.in_ok-count.ensures.found in
    found_payload c.args.bytes.now c.in_ok-count.count (λ i. omega (arith, c.type_inv.bytes i)) found.1 (omega (arith, found.0, c.if-count-bytes.false))
