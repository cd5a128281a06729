use Rattle.coda_venus.specs.State.{ClientState}
use Rattle.coda_venus.specs.Code.{IsClient}
use Rattle.coda_venus.proofs.Taking.{Took}
use Rattle.coda_venus.proofs.client.Client.enter_each.Given as goal

abbrev pub invariant-loop-entry : goal.invariant-loop-entry
invariant-loop-entry l = (c : ClientState) → IsClient c l.fn.self → Took c l.fn.entries.items l.self l.entry-iterator.rest.items
