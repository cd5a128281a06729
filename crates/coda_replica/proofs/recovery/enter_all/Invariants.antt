use Rattle.std.proofs.Common.{◌≡◌, ◌+◌, ◌-◌, ◌^◌, min, take, length}
use Rattle.std.specs.Int.{w32}
use Rattle.coda_journal.specs.Entries.{blocks}
use Rattle.coda_journal.specs.declared.header.Header.{Header}
use Rattle.coda_replica.specs.State.{new_replica}
use Rattle.coda_replica.specs.Entering.{AreEntered}
use Rattle.coda_replica.proofs.recovery.enter_all.Given as goal

abbrev pub invariant-loop-payload : goal.invariant-loop-payload
invariant-loop-payload l =
    ((header : Header) → l.fn.decider ≡ new_replica header.number header.server → AreEntered header (take l.payload-index l.payloads) l.decider)
    × (l.place ≡ min (l.start + length (blocks w32 (take l.payload-index l.payloads))) (2 ^ 64 - 1))
