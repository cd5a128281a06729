-- What a replica keeps in its journal, and the state that this leaves.
use Rattle.std.specs.Prelude.{◌≡◌, ℕ, ◌+◌, List, [], map}
use Rattle.coda_certify.specs.Replay.{replay}
use Rattle.coda_certify.specs.Verdicts.{verdict_of}
use Rattle.coda_journal.specs.declared.header.Header.{Header}
use Rattle.coda_plain.specs.Histories.{left_by, DoFollow}
use Rattle.coda_record.specs.Entries.{replica_entry}
use Rattle.coda_record.specs.Form.{four}
use Rattle.coda_record.specs.Spelling.{HasSpelling}
use Rattle.coda_record.specs.declared.entry.ReplicaEntry.{ReplicaEntry}
use Rattle.coda_record.specs.declared.entry.ReplicaEntry.TheVariants.{Decide, Resolve, Repair, Snapshot}
use Rattle.coda_replica.specs.State.{ReplicaState, new_replica, last_for, decided}

-- the payload that an entry is written as
abbrev pub payload_of : ReplicaEntry → List ℕ
payload_of entry = ((replica_entry four).piece entry).bytes

abbrev pub payloads_of : List ReplicaEntry → List (List ℕ)
payloads_of history = map payload_of history

-- what an entry makes of a state
abbrev pub state_after : ReplicaState → ReplicaEntry → ReplicaState
state_after r (Decide client number recs verdict) = decided r client number recs
state_after r (Resolve change lasts) = r
state_after r (Repair change lasts) = r
state_after r (Snapshot count held lasts) = r

-- The state that a history leaves on the disk of a replica with this header: of its volume and its server, one entry after the other.
abbrev pub state_of : Header → List ReplicaEntry → ReplicaState
state_of header history = left_by state_after (new_replica header.number header.server) history

-- A chunk is decided where it is the next one of its client, and its verdict is that of the replay. No resolution, repair or snapshot
-- follows: replicas have none of these yet.
abbrev pub IsDecidedIn : ReplicaState → ReplicaEntry → Type 0
IsDecidedIn r (Decide client number recs verdict) = (number ≡ (last_for r client).number + 1) × (verdict ≡ verdict_of (replay r.tree.nodes client recs))
IsDecidedIn r (Resolve change lasts) = ⊥
IsDecidedIn r (Repair change lasts) = ⊥
IsDecidedIn r (Snapshot count held lasts) = ⊥

-- An entry can follow a list where the chunk is decided so in the state that the list leaves, and where all of it is within its limits:
-- a chunk has no number above 2^32 - 1.
abbrev pub MayFollow : Header → List ReplicaEntry → ReplicaEntry → Type 0
MayFollow header past entry = IsDecidedIn (state_of header past) entry × HasSpelling (replica_entry four) entry

-- each entry can follow those before it
abbrev pub IsHistory : Header → List ReplicaEntry → Type 0
IsHistory header history = DoFollow (MayFollow header) [] history
