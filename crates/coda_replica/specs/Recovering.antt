-- What a recovery answers.
use Rattle.std.specs.Prelude.{◌≡◌, ◌⊎◌, ℕ, ◌+◌, List, [], ◌∷◌, ◌++◌, length}
use Rattle.std.specs.Int.{w32}
use Rattle.coda_disk.specs.Told.{Told, Only, LeavesOnly}
use Rattle.coda_journal.specs.Entries.{blocks}
use Rattle.coda_journal.specs.Image.{IsUnmade, Reads, ReadsAs, start_of}
use Rattle.coda_journal.specs.Mount.{OldOrEmpty, WhyNot}
use Rattle.coda_journal.specs.declared.header.Header.{Header}
use Rattle.coda_journal.specs.declared.mounting.MountFault.{MountFault}
use Rattle.coda_journal.specs.declared.mounting.MountFault.TheVariants.{Foreign, DiskFault, Memory}
use Rattle.coda_record.specs.Entries.{replica_entry}
use Rattle.coda_record.specs.Form.{four}
use Rattle.coda_record.specs.Spelling.{Spells}
use Rattle.coda_record.specs.declared.entry.ReplicaEntry.{ReplicaEntry}
use Rattle.coda_replica.specs.History.{payloads_of, MayFollow, IsHistory}
use Rattle.coda_replica.specs.Standing.{IsUp}
use Rattle.coda_replica.specs.declared.replica.Replica.{Replica}

-- The replica is up with the history that the disk read as, and so many entries.
pub record Recovered {D : Type 0} (told : D → Told) (header : Header) (disk : D) (replica : Replica D) (count : ℕ) : Type 0 where
  pub history : List ReplicaEntry
  pub up : IsUp told header replica history
  pub was : ReadsAs header (payloads_of history) (told disk).seen
  pub counts : count ≡ length history
  pub leaves : LeavesOnly (told disk) (told replica.journal.disk) (OldOrEmpty header (told disk))

-- a payload that can't follow a history: it is no spelling of an entry that can
abbrev pub IsMisfit : Header → List ReplicaEntry → List ℕ → Type 0
IsMisfit header past payload = (entry : ReplicaEntry) → Spells (replica_entry four) payload entry → ¬ MayFollow header past entry

-- Behind the payloads of a history there is one that can't follow it, and this is the place of its gate on the disk.
pub record HasMisfit (header : Header) (image : List ℕ) (at : ℕ) : Type 0 where
  pub past : List ReplicaEntry
  pub payload : List ℕ
  pub rest : List (List ℕ)
  pub reads : Reads header image (payloads_of past ++ payload ∷ rest)
  pub lawful : IsHistory header past
  pub misfit : IsMisfit header past payload
  pub here : at ≡ start_of header image + length (blocks w32 (payloads_of past))

-- Foreign: the disk isn't mounted, or it is durable now, a crash before might have left what it reads as, and this has a misfit. Memory: the disk
-- reads as the same list.
abbrev pub WhyNotRecovered : Header → Told → Told → MountFault → Type 0
WhyNotRecovered header old new (Foreign at) = WhyNot header old new (Foreign at) ⊎ (old.may_leave new.seen × Only new.seen new.may_leave × HasMisfit header new.seen at)
WhyNotRecovered header old new DiskFault = Unit {0}
WhyNotRecovered header old new Memory = (payloads : List (List ℕ)) → ReadsAs header payloads old.seen → ReadsAs header payloads new.seen

-- The disk is given back: each image since is one that a crash might have left before, or, of a disk that wasn't made, reads as no entries.
pub record NotRecovered (header : Header) (old new : Told) (why : MountFault) : Type 0 where
  pub honest : new.honest
  pub leaves : LeavesOnly old new (OldOrEmpty header old)
  pub now : ((c : List ℕ) → new.may_leave c → old.may_leave c) ⊎ (IsUnmade old.seen × ((c : List ℕ) → new.may_leave c → ReadsAs header [] c))
  pub why_not : WhyNotRecovered header old new why
