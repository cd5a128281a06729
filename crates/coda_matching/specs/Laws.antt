-- What the histories of a cell leave, and what journals leave, is one.
use Rattle.std.specs.Prelude.{◌≡◌, List}
use Rattle.coda_journal.specs.declared.header.Header.{Header}
use Rattle.coda_plain.specs.Cell.{ClientEntry}
use Rattle.coda_plain.specs.Decisions.{ReplicaEntry}
use Rattle.coda_venus.specs.History.{state_of}
use Rattle.coda_replica.specs.History.{state_of as replica_state_of}
use Rattle.coda_cell.specs.State.{replica_state}
use Rattle.coda_cell.specs.Made.{client_of}
use Rattle.coda_cell.specs.State.{new_replica, replica_after_all}
use Rattle.coda_matching.specs.Clients.{IsClientHistory, journal_by, IsOneClient}
use Rattle.coda_matching.specs.Replicas.{IsReplicaHistory, journal_at}

-- A journal leaves the client that its history in a cell leaves: each log is what cancellation leaves of what is pending.
abbrev pub JournalsLeaveClients : Type 0
JournalsLeaveClients = (header : Header) (history : List ClientEntry) → IsClientHistory header history → IsOneClient (client_of header.number history header.cache) (state_of header (journal_by history))

-- A journal leaves the replica that its history in a cell leaves: to decide what was sent is to decide the operations of the chunk.
abbrev pub JournalsLeaveReplicas : Type 0
JournalsLeaveReplicas =
    (header : Header) (history : List ReplicaEntry) → IsReplicaHistory header history → replica_state (replica_state_of header (journal_at header.number history)) ≡ replica_after_all (new_replica header.server header.number) history
