-- A replica's history in a cell, and its journal.
use Rattle.std.specs.Prelude.{◌≡◌, ◌<◌, ◌⊎◌, ◌+◌, ℕ, true, List, [], ◌∷◌, ◌++◌, Some, Result, Ok, Err, length}
use Rattle.std.specs.Int.{w32}
use Rattle.coda_disk.specs.Told.{Told}
use Rattle.coda_journal.specs.Entries.{blocks, framed}
use Rattle.coda_journal.specs.Header.{area_bytes}
use Rattle.coda_journal.specs.declared.header.Header.{Header}
use Rattle.coda_certify.specs.Verdicts.{verdict_of}
use Rattle.coda_plain.specs.Histories.{told as told_by, In}
use Rattle.coda_plain.specs.Decisions.{ReplicaEntry, Decided, Resolved, sent_of, decision, nodes_of, AreDecisions}
use Rattle.coda_record.specs.declared.answer.Answer.{Answer}
use Rattle.coda_record.specs.declared.entry.ReplicaEntry.{ReplicaEntry as KeptEntry}
use Rattle.coda_record.specs.declared.entry.ReplicaEntry.TheVariants as kept
use Rattle.coda_replica.specs.History.{payload_of, payloads_of, IsHistory}
use Rattle.coda_replica.specs.Standing.{IsUp, StandsFor}
use Rattle.coda_replica.specs.declared.fault.ReplicaFault.{ReplicaFault}
use Rattle.coda_replica.specs.declared.fault.ReplicaFault.TheVariants as fault
use Rattle.coda_replica.specs.declared.replica.Replica.{Replica}
use Rattle.coda_cell.specs.Sending.{Ruling}
use Rattle.coda_cell.specs.Refused.{Refused}
use Rattle.coda_cell.specs.Refused as refused

-- ---- what stands in a journal

-- an entry of the history of a volume's replica, as a journal keeps it behind the entries before it: with the records that were sent, and with
-- the verdict; no journal keeps what a resolution left yet
abbrev pub entry_at : ℕ → List ReplicaEntry → ReplicaEntry → List KeptEntry
entry_at volume past (Decided client number span) = kept.Decide client number (sent_of span) (verdict_of (decision (nodes_of volume past) client span)) ∷ []
entry_at volume past (Resolved nodes lasts) = []

abbrev pub journal_at : ℕ → List ReplicaEntry → List KeptEntry
journal_at volume history = told_by (entry_at volume) [] history

-- the entry is a decision
abbrev pub IsDecision : ReplicaEntry → Type 0
IsDecision (Decided client number span) = Unit {0}
IsDecision (Resolved nodes lasts) = ⊥

-- a history that a replica of a cell may have which decides alone, with a journal under this header that it may have
pub record IsReplicaHistory (header : Header) (history : List ReplicaEntry) : Type 0 where
  pub journal : IsHistory header (journal_at header.number history)
  pub decisions : AreDecisions header.number history
  pub alone : (entry : ReplicaEntry) → In entry history → IsDecision entry

-- ---- how a ruling ends

-- the journal has no room for what is kept of the entry behind the history
abbrev pub LacksRoom : Header → List ReplicaEntry → KeptEntry → Type 0
LacksRoom header history entry = area_bytes header < length (blocks w32 (payloads_of (journal_at header.number history))) + length (framed w32 (payload_of entry))

-- the ruling adds this entry, which is kept so
pub record Adds (header : Header) (history : List ReplicaEntry) (ruled : Ruling) : Type 0 where
  pub entry : ReplicaEntry
  pub kept : KeptEntry
  pub adds : ruled.entries ≡ entry ∷ []
  pub is : entry_at header.number history entry ≡ kept ∷ []

-- How a ruling on a chunk ends: with the answer that was to be given, and what it adds is there; or it is refused, as it was to be, or for want
-- of room or of memory, and nothing changed; or a fault of the disk stopped what it was to add.
abbrev pub RulingEnds : {D : Type 0} → (D → Told) → Header → List ReplicaEntry → Result Ruling Refused → Replica D → Result Answer ReplicaFault → Type 0
RulingEnds told header history wanted new (Ok answer) =
    (ruled : Ruling) × (wanted ≡ Ok ruled) × (answer ≡ ruled.answer) × IsUp told header new (journal_at header.number (history ++ ruled.entries))
RulingEnds told header history wanted new (Err fault.JournalFull) =
    ((wanted ≡ Err refused.JournalFull) ⊎ ((ruled : Ruling) × (wanted ≡ Ok ruled) × (adds : Adds header history ruled) × LacksRoom header history adds.kept))
    × IsUp told header new (journal_at header.number history)
RulingEnds told header history wanted new (Err fault.DiskFault) =
    (ruled : Ruling) × (wanted ≡ Ok ruled) × (adds : Adds header history ruled) × (new.down ≡ true)
    × StandsFor (told new.journal.disk) header (journal_at header.number history) (Some adds.kept)
RulingEnds told header history wanted new (Err fault.Memory) = IsUp told header new (journal_at header.number history)
RulingEnds told header history wanted new (Err why) = ⊥
