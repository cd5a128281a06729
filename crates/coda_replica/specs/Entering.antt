-- How payloads are read as a history, one after the other.
use Rattle.std.specs.Prelude.{◌≡◌, ℕ, ◌+◌, ◌^◌, ◌-◌, min, List, ◌∷◌, ◌++◌, length}
use Rattle.std.specs.Int.{w32}
use Rattle.coda_journal.specs.Entries.{blocks}
use Rattle.coda_journal.specs.declared.header.Header.{Header}
use Rattle.coda_record.specs.Entries.{replica_entry}
use Rattle.coda_record.specs.Form.{four}
use Rattle.coda_record.specs.Spelling.{Spells}
use Rattle.coda_record.specs.declared.entry.ReplicaEntry.{ReplicaEntry}
use Rattle.coda_replica.specs.State.{ReplicaState}
use Rattle.coda_replica.specs.History.{payloads_of, state_after, state_of, IsDecidedIn, IsHistory}
use Rattle.coda_replica.specs.Recovering.{IsMisfit}

-- the payload is an entry that is decided so in the old state, and leaves the new one
pub record Enters (old : ReplicaState) (payload : List ℕ) (new : ReplicaState) : Type 0 where
  pub entry : ReplicaEntry
  pub spells : Spells (replica_entry four) payload entry
  pub decided : IsDecidedIn old entry
  pub leaves : new ≡ state_after old entry

-- the payload is no entry that is decided so in the state
abbrev pub IsUnfit : ReplicaState → List ℕ → Type 0
IsUnfit r payload = (entry : ReplicaEntry) → Spells (replica_entry four) payload entry → ¬ IsDecidedIn r entry

-- the payloads are those of a history, which leaves this state
pub record AreEntered (header : Header) (payloads : List (List ℕ)) (r : ReplicaState) : Type 0 where
  pub history : List ReplicaEntry
  pub same : payloads ≡ payloads_of history
  pub lawful : IsHistory header history
  pub leaves : r ≡ state_of header history

-- Behind the payloads of a history there is one that can't follow it, and its gate stands here, where the first one stands at start.
pub record Breaks (header : Header) (payloads : List (List ℕ)) (start at : ℕ) : Type 0 where
  pub past : List ReplicaEntry
  pub payload : List ℕ
  pub rest : List (List ℕ)
  pub same : payloads ≡ payloads_of past ++ payload ∷ rest
  pub lawful : IsHistory header past
  pub misfit : IsMisfit header past payload
  pub here : at ≡ min (start + length (blocks w32 (payloads_of past))) (2 ^ 64 - 1)
