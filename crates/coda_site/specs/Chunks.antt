-- What an actor that is up does in its slot for a chunk.
use Rattle.std.specs.Prelude.{◌≡◌, ℕ, List}
use Rattle.std.specs.BTreeMap.{BTreeMap}
use Rattle.coda_disk.specs.Told.{Told}
use Rattle.coda_journal.specs.declared.header.Header.{Header}
use Rattle.coda_plain.specs.Cell.{ClientEntry}
use Rattle.coda_plain.specs.Decisions.{ReplicaEntry}
use Rattle.coda_actors.specs.declared.slot.Slot.{Slot}
use Rattle.coda_actors.specs.declared.slot.Slot.TheVariants.{Started}
use Rattle.coda_crew.specs.Crews.{slot_at}
use Rattle.coda_replica.specs.Standing.{IsUp as IsReplicaUp}
use Rattle.coda_replica.specs.declared.replica.Replica.{Replica}
use Rattle.coda_venus.specs.Standing.{IsUp}
use Rattle.coda_venus.specs.declared.venus.Venus.{Venus}
use Rattle.coda_cell.specs.Made.{client_of}
use Rattle.coda_cell.specs.State.{ClientVolume, ReplicaState, new_replica, replica_after_all}
use Rattle.coda_matching.specs.Clients.{journal_by, IsClientHistory}
use Rattle.coda_matching.specs.Replicas.{journal_at, IsReplicaHistory}

-- ---- by histories

-- what a client has of a volume
abbrev pub volume_by : Header → List ClientEntry → ℕ → ClientVolume
volume_by header history volume = (client_of header.number history header.cache).volumes volume

-- what a replica is
abbrev pub replica_by : Header → List ReplicaEntry → ReplicaState
replica_by header history = replica_after_all (new_replica header.server header.number) history

-- A client that was in its slot is there still, and its call ended so by its history.
abbrev pub ClientEnds : {D : Type 0} → (D → Told) → ℕ → BTreeMap ℕ (Slot (Venus D) D) → BTreeMap ℕ (Slot (Venus D) D) → (Header → List ClientEntry → Venus D → Type 0) → Type 0
ClientEnds {D = D} told number old new Ends =
    (header : Header) (venus : Venus D) → slot_at old number ≡ Started header venus → (left : Venus D) × (slot_at new number ≡ Started header left)
    × ((history : List ClientEntry) → IsUp told header venus (journal_by history) → IsClientHistory header history → Ends header history left)

-- A replica likewise.
abbrev pub ReplicaEnds : {D : Type 0} → (D → Told) → ℕ → BTreeMap ℕ (Slot (Replica D) D) → BTreeMap ℕ (Slot (Replica D) D) → (Header → List ReplicaEntry → Replica D → Type 0) → Type 0
ReplicaEnds {D = D} told number old new Ends =
    (header : Header) (replica : Replica D) → slot_at old number ≡ Started header replica → (left : Replica D) × (slot_at new number ≡ Started header left)
    × ((history : List ReplicaEntry) → IsReplicaUp told header replica (journal_at header.number history) → IsReplicaHistory header history → Ends header history left)
