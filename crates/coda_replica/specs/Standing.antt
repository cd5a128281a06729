-- Which history a replica has, and which its disk stands for.
use Rattle.std.specs.Prelude.{◌≡◌, ℕ, false, List, Option, Some, IfSome, option_map}
use Rattle.coda_disk.specs.Told.{Told}
use Rattle.coda_journal.specs.Image.{ReadsAs}
use Rattle.coda_journal.specs.Journal.{IsJournal}
use Rattle.coda_journal.specs.Open.{Stands}
use Rattle.coda_journal.specs.declared.header.Header.{Header}
use Rattle.coda_record.specs.declared.entry.ReplicaEntry.{ReplicaEntry}
use Rattle.coda_replica.specs.History.{payload_of, payloads_of, state_of, MayFollow, IsHistory}
use Rattle.coda_replica.specs.declared.replica.Replica.{Replica}

-- The replica is up: its journal is at rest with this history, so each image that a crash now may leave reads as it, and its state is
-- what the history leaves.
pub record IsUp {D : Type 0} (told : D → Told) (header : Header) (replica : Replica D) (history : List ReplicaEntry) : Type 0 where
  pub up : replica.down ≡ false
  pub journal : IsJournal told header replica.journal (payloads_of history)
  pub lawful : IsHistory header history
  pub state : replica.decider ≡ state_of header history

-- The disk stands for this history: each image that a crash now may leave reads as it, or as it and the entry whose append failed.
pub record StandsFor (told : Told) (header : Header) (history : List ReplicaEntry) (failed : Option ReplicaEntry) : Type 0 where
  pub images : Stands told header (payloads_of history) (option_map payload_of failed)
  pub lawful : IsHistory header history
  pub next : IfSome failed (MayFollow header history)

-- the image reads as this history
abbrev pub ReadsAsHistory : Header → List ℕ → List ReplicaEntry → Type 0
ReadsAsHistory header image history = IsHistory header history × ReadsAs header (payloads_of history) image

-- each image that a crash now may leave reads as some history
abbrev pub IsReplicaDisk : Header → Told → Type 0
IsReplicaDisk header told = (image : List ℕ) → told.may_leave image → (history : List ReplicaEntry) × ReadsAsHistory header image history

-- its journal and its state are as they were, and it isn't down where it wasn't
abbrev pub IsAsBefore : {D : Type 0} → Replica D → Replica D → Type 0
IsAsBefore old new = (new.journal ≡ old.journal) × (new.decider ≡ old.decider) × (new.down ≡ old.down)
