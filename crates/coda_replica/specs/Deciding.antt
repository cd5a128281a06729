-- What a chunk makes of a replica and its disk.
use Rattle.std.specs.Prelude.{◌≡◌, ◌≢◌, ◌⊎◌, ℕ, ◌+◌, ◌<◌, Bool, true, false, if◌then◌else◌, List, [], ◌∷◌, ◌++◌, length, Option, Some, Result, Ok, Err}
use Rattle.std.specs.Int.{w32}
use Rattle.coda_fid.specs.declared.op.Record.{Record}
use Rattle.coda_certify.specs.Replay.{replay}
use Rattle.coda_certify.specs.Verdicts.{verdict_of}
use Rattle.coda_certify.specs.declared.verdict.Verdict.{Verdict}
use Rattle.coda_certify.specs.declared.verdict.Verdict.TheVariants.{Applied}
use Rattle.coda_disk.specs.Told.{Told, LeavesOnly}
use Rattle.coda_journal.specs.Entries.{framed}
use Rattle.coda_journal.specs.Journal.{IsJournal, IsBeforeOrAfter}
use Rattle.coda_journal.specs.Open.{Stands}
use Rattle.coda_journal.specs.declared.header.Header.{Header}
use Rattle.coda_journal.specs.declared.journal.Journal.{Journal}
use Rattle.coda_record.specs.declared.answer.Answer.{Answer}
use Rattle.coda_record.specs.declared.entry.ReplicaEntry.{ReplicaEntry}
use Rattle.coda_record.specs.declared.last.Last.{Last}
use Rattle.coda_record.specs.declared.entry.ReplicaEntry.TheVariants.{Decide}
use Rattle.coda_replica.specs.State.{ReplicaState, last_for, with_last}
use Rattle.coda_replica.specs.Answers.{is_next, answer_to}
use Rattle.coda_replica.specs.History.{payload_of, payloads_of, state_of}
use Rattle.coda_replica.specs.Standing.{IsUp, StandsFor, IsAsBefore}
use Rattle.coda_replica.specs.declared.fault.ReplicaFault.{ReplicaFault}
use Rattle.coda_replica.specs.declared.fault.ReplicaFault.TheVariants.{Down, NotFound, JournalFull, DiskFault, Memory}
use Rattle.coda_replica.specs.declared.replica.Replica.{Replica}

-- a fault of the disk, and nothing else, takes a replica down
abbrev pub Falls : {T : Type 0} → Bool → Bool → Result T ReplicaFault → Type 0
Falls old new (Err DiskFault) = new ≡ true
Falls old new result = new ≡ old

-- ---- one entry

-- What adding an entry answers where there is room: it is there, or a call of the disk failed.
abbrev pub AppendAnswers : {D T E : Type 0} → (D → Told) → Header → List (List ℕ) → List ℕ → Journal D → Result T E → Type 0
AppendAnswers told header payloads payload new (Ok x) = IsJournal told header new (payloads ++ payload ∷ [])
AppendAnswers told header payloads payload new (Err e) = Stands (told new.disk) header payloads (Some payload)

pub record Appending {D T E : Type 0} (told : D → Told) (header : Header) (old : Journal D) (payloads : List (List ℕ)) (payload : List ℕ) (new : Journal D) (result : Result T E) : Type 0 where
  pub any_moment : LeavesOnly (told old.disk) (told new.disk) (IsBeforeOrAfter header payloads payload)
  pub answers : AppendAnswers told header payloads payload new result

abbrev pub Appends : {D T E : Type 0} → (D → Told) → Header → Journal D → List (List ℕ) → List ℕ → Journal D → Result T E → Type 0
Appends told header old payloads payload new result = IsJournal told header old payloads → Appending told header old payloads payload new result

-- What adding an entry answers: it is there; or, for want of room or of memory, it isn't; or a call of the disk failed.
abbrev pub KeepAnswers : {D T : Type 0} → (D → Told) → Header → Journal D → List (List ℕ) → List ℕ → Replica D → Result T ReplicaFault → Type 0
KeepAnswers told header old payloads payload new (Ok x) = (new.down ≡ false) × IsJournal told header new.journal (payloads ++ payload ∷ [])
KeepAnswers told header old payloads payload new (Err JournalFull) = (new.down ≡ false) × (new.journal ≡ old)
KeepAnswers told header old payloads payload new (Err DiskFault) = (new.down ≡ true) × Stands (told new.journal.disk) header payloads (Some payload)
KeepAnswers told header old payloads payload new (Err Down) = ⊥
KeepAnswers told header old payloads payload new (Err NotFound) = ⊥
KeepAnswers told header old payloads payload new (Err Memory) = (new.down ≡ false) × (new.journal ≡ old)

-- an entry was to be added to a journal at rest with these payloads
pub record Keeping {D T : Type 0} (told : D → Told) (header : Header) (old : Journal D) (payloads : List (List ℕ)) (payload : List ℕ) (new : Replica D) (result : Result T ReplicaFault) : Type 0 where
  pub any_moment : LeavesOnly (told old.disk) (told new.journal.disk) (IsBeforeOrAfter header payloads payload)
  pub answers : KeepAnswers told header old payloads payload new result

abbrev pub Keeps : {D T : Type 0} → (D → Told) → Header → Journal D → List (List ℕ) → List ℕ → Replica D → Result T ReplicaFault → Type 0
Keeps told header old payloads payload new result = IsJournal told header old payloads → Keeping told header old payloads payload new result

-- no room for an entry is answered exactly where there is none, unless memory runs out before
abbrev pub IsFullness : {D T : Type 0} → Journal D → ReplicaEntry → Result T ReplicaFault → Type 0
IsFullness journal entry (Err JournalFull) = journal.area < journal.used + length (framed w32 (payload_of entry))
IsFullness journal entry (Err Memory) = Unit {0}
IsFullness journal entry result = ¬ (journal.area < journal.used + length (framed w32 (payload_of entry)))

-- a fault of keeping an entry
abbrev pub IsKeepFault : ReplicaFault → Type 0
IsKeepFault Down = ⊥
IsKeepFault NotFound = ⊥
IsKeepFault JournalFull = Unit {0}
IsKeepFault DiskFault = Unit {0}
IsKeepFault Memory = Unit {0}

-- one of a journal, which takes no memory
abbrev pub IsAppendFault : ReplicaFault → Type 0
IsAppendFault Memory = ⊥
IsAppendFault e = IsKeepFault e

-- where a conflict isn't kept, the client's last decision is put back
abbrev pub IsBack : {T : Type 0} → ReplicaState → ℕ → Option Last → Verdict → ReplicaState → Result T ReplicaFault → Type 0
IsBack old client was verdict new (Ok x) = Unit {0}
IsBack old client was verdict new (Err DiskFault) = Unit {0}
IsBack old client was verdict new (Err e) = (verdict ≢ Applied) × (new ≡ with_last old client was)

-- ---- a chunk

-- the entry that a chunk's decision is
abbrev pub decision_entry : ReplicaState → ℕ → ℕ → List Record → ReplicaEntry
decision_entry r client number recs = Decide client number recs (verdict_of (replay r.tree.nodes client recs))

-- the history once the chunk came: with its decision where it is the next one, and else as it was
abbrev pub grown : Header → List ReplicaEntry → ℕ → ℕ → List Record → List ReplicaEntry
grown header history client number recs =
    if is_next (last_for (state_of header history) client) number then history ++ decision_entry (state_of header history) client number recs ∷ [] else history

-- No client has so many chunks, or the journal has no room for the entry.
abbrev pub IsFull : {D : Type 0} → Journal D → ℕ → ReplicaEntry → Type 0
IsFull journal number entry = (4294967295 < number) ⊎ (journal.area < journal.used + length (framed w32 (payload_of entry)))

-- What is answered to the next chunk of a client.
abbrev pub NextAnswers : {D : Type 0} → (D → Told) → Header → Replica D → List ReplicaEntry → ℕ → ℕ → List Record → Replica D → Result Verdict ReplicaFault → Type 0
NextAnswers told header old history client number recs new (Ok verdict) =
    (verdict ≡ verdict_of (replay old.decider.tree.nodes client recs)) × (¬ IsFull old.journal number (decision_entry old.decider client number recs))
    × IsUp told header new (history ++ decision_entry old.decider client number recs ∷ [])
NextAnswers told header old history client number recs new (Err JournalFull) = IsFull old.journal number (decision_entry old.decider client number recs) × IsAsBefore old new
NextAnswers told header old history client number recs new (Err Memory) = IsAsBefore old new
NextAnswers told header old history client number recs new (Err DiskFault) =
    (¬ IsFull old.journal number (decision_entry old.decider client number recs)) × (new.down ≡ true)
    × StandsFor (told new.journal.disk) header history (Some (decision_entry old.decider client number recs))
NextAnswers told header old history client number recs new (Err Down) = ⊥
NextAnswers told header old history client number recs new (Err NotFound) = ⊥

pub record NextDeciding {D : Type 0} (told : D → Told) (header : Header) (old : Replica D) (history : List ReplicaEntry) (client number : ℕ) (recs : List Record) (new : Replica D) (result : Result Verdict ReplicaFault) : Type 0 where
  pub any_moment : LeavesOnly (told old.journal.disk) (told new.journal.disk) (IsBeforeOrAfter header (payloads_of history) (payload_of (decision_entry old.decider client number recs)))
  pub answers : NextAnswers told header old history client number recs new result

abbrev pub DecidesNext : {D : Type 0} → (D → Told) → Header → Replica D → ℕ → ℕ → List Record → Replica D → Result Verdict ReplicaFault → Type 0
DecidesNext told header old client number recs new result =
    (history : List ReplicaEntry) → IsUp told header old history → is_next (last_for old.decider client) number ≡ true → NextDeciding told header old history client number recs new result

-- What is answered to a chunk: only the next one of its client may be refused, and only the next one grows the history.
abbrev pub DecideAnswers : {D : Type 0} → (D → Told) → Header → Replica D → List ReplicaEntry → ℕ → ℕ → List Record → Replica D → Result Answer ReplicaFault → Type 0
DecideAnswers told header old history client number recs new (Ok answer) =
    (answer ≡ answer_to (last_for old.decider client) number (verdict_of (replay old.decider.tree.nodes client recs)))
    × (is_next (last_for old.decider client) number ≡ true → ¬ IsFull old.journal number (decision_entry old.decider client number recs))
    × IsUp told header new (grown header history client number recs)
DecideAnswers told header old history client number recs new (Err JournalFull) =
    (is_next (last_for old.decider client) number ≡ true) × IsFull old.journal number (decision_entry old.decider client number recs) × IsAsBefore old new
DecideAnswers told header old history client number recs new (Err Memory) = (is_next (last_for old.decider client) number ≡ true) × IsAsBefore old new
DecideAnswers told header old history client number recs new (Err DiskFault) =
    (is_next (last_for old.decider client) number ≡ true) × (¬ IsFull old.journal number (decision_entry old.decider client number recs))
    × (new.down ≡ true) × StandsFor (told new.journal.disk) header history (Some (decision_entry old.decider client number recs))
DecideAnswers told header old history client number recs new (Err Down) = ⊥
DecideAnswers told header old history client number recs new (Err NotFound) = ⊥

-- A chunk came to a replica with this history: each image that a crash may have left at any moment since then reads as the history, or
-- as the history with the chunk's decision.
pub record Deciding {D : Type 0} (told : D → Told) (header : Header) (old : Replica D) (history : List ReplicaEntry) (client number : ℕ) (recs : List Record) (new : Replica D) (result : Result Answer ReplicaFault) : Type 0 where
  pub any_moment : LeavesOnly (told old.journal.disk) (told new.journal.disk) (IsBeforeOrAfter header (payloads_of history) (payload_of (decision_entry old.decider client number recs)))
  pub answers : DecideAnswers told header old history client number recs new result

abbrev pub Decides : {D : Type 0} → (D → Told) → Header → Replica D → ℕ → ℕ → List Record → Replica D → Result Answer ReplicaFault → Type 0
Decides told header old client number recs new result = (history : List ReplicaEntry) → IsUp told header old history → Deciding told header old history client number recs new result
