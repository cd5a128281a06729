-- What the calls of a journal do.
use Rattle.std.specs.Prelude.{◌⊎◌, ℕ, List, [], ◌∷◌, ◌++◌, Result, Ok, Err, Some}
use Rattle.coda_disk.specs.Told.{Told, LeavesOnly}
use Rattle.coda_journal.specs.Image.{Reads}
use Rattle.coda_journal.specs.declared.header.Header.{Header}
use Rattle.coda_journal.specs.Open.{IsOpen, Stands}
use Rattle.coda_journal.specs.declared.journal.Journal.{Journal}
use Rattle.coda_journal.specs.declared.journal.JournalFault.{JournalFault}
use Rattle.coda_journal.specs.declared.journal.JournalFault.TheVariants.{JournalFull, DiskFault}

-- a journal at rest with this header and this list
abbrev pub IsJournal : {D : Type 0} → (D → Told) → Header → Journal D → List (List ℕ) → Type 0
IsJournal told header journal payloads = IsOpen (told journal.disk) header journal.start journal.used journal.area payloads

abbrev pub AppendAnswers : {D T : Type 0} → (D → Told) → Header → List (List ℕ) → List ℕ → Journal D → Result T JournalFault → Type 0
AppendAnswers told header payloads payload new (Ok x) = IsJournal told header new (payloads ++ payload ∷ [])
AppendAnswers told header payloads payload new (Err (JournalFull used need area)) = IsJournal told header new payloads
AppendAnswers told header payloads payload new (Err DiskFault) = Stands (told new.disk) header payloads (Some payload)

-- the list, or the list with one more
abbrev pub IsBeforeOrAfter : Header → List (List ℕ) → List ℕ → List ℕ → Type 0
IsBeforeOrAfter header payloads payload image = Reads header image payloads ⊎ Reads header image (payloads ++ payload ∷ [])

-- an append of this payload to a journal at rest with this list
pub record Appending {D T : Type 0} (told : D → Told) (header : Header) (old : Journal D) (payloads : List (List ℕ)) (payload : List ℕ) (new : Journal D) (result : Result T JournalFault) : Type 0 where
  pub any_moment : LeavesOnly (told old.disk) (told new.disk) (IsBeforeOrAfter header payloads payload)
  pub answers : AppendAnswers told header payloads payload new result

abbrev pub Appends : {D T : Type 0} → (D → Told) → Header → Journal D → List (List ℕ) → List ℕ → Journal D → Result T JournalFault → Type 0
Appends told header old payloads payload new result = IsJournal told header old payloads → Appending told header old payloads payload new result
