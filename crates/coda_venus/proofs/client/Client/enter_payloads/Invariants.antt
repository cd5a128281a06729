use Rattle.std.proofs.Common.{◌≡◌, ◌+◌, ◌-◌, ◌^◌, min, take, length}
use Rattle.std.specs.Int.{w32}
use Rattle.coda_journal.specs.Entries.{blocks}
use Rattle.coda_journal.specs.declared.header.Header.{Header}
use Rattle.coda_venus.specs.Code.{IsClient}
use Rattle.coda_venus.specs.State.{new_client}
use Rattle.coda_venus.specs.Entering.{AreEntered}
use Rattle.coda_venus.proofs.client.Client.enter_payloads.Given as goal

abbrev pub invariant-loop-payload : goal.invariant-loop-payload
invariant-loop-payload l =
    ((header : Header) → IsClient (new_client header.number header.cache) l.fn.self → AreEntered header (take l.payload-index l.payloads) l.self)
    × (l.place ≡ min (l.start + length (blocks w32 (take l.payload-index l.payloads))) (2 ^ 64 - 1))
