-- What a truncation of a store does.
use Rattle.std.specs.Prelude.{◌⊎◌, ℕ, List, [], ◌∷◌, Result, Ok, Err}
use Rattle.coda_disk.specs.Told.{Told, LeavesOnly}
use Rattle.coda_journal.specs.Header.{IsHeader}
use Rattle.coda_journal.specs.Image.{Reads}
use Rattle.coda_journal.specs.Journal.{IsJournal}
use Rattle.coda_journal.specs.declared.header.Header.{Header}
use Rattle.coda_journal.specs.declared.journal.JournalFault.{JournalFault}
use Rattle.coda_journal.specs.declared.journal.JournalFault.TheVariants.{JournalFull, DiskFault}
use Rattle.coda_checkpoint.specs.declared.store.Store.{Store}

-- a store at rest with this header and this list: all that a crash now may leave is one image, which reads so
abbrev pub IsStore : {D : Type 0} → (D → Told) → Header → Store D → List (List ℕ) → Type 0
IsStore told header store payloads = IsJournal told header store.journal payloads

-- the old list, or the snapshot alone
abbrev pub IsOldOrSnapshot : Header → List (List ℕ) → List ℕ → List ℕ → Type 0
IsOldOrSnapshot header payloads snapshot image = Reads header image payloads ⊎ Reads header image (snapshot ∷ [])

-- each image that a crash now may leave reads as the old list or as the snapshot alone
pub record IsInDoubt (told : Told) (header : Header) (payloads : List (List ℕ)) (snapshot : List ℕ) : Type 0 where
  pub honest : told.honest
  pub whole : IsHeader header
  pub each : (c : List ℕ) → told.may_leave c → IsOldOrSnapshot header payloads snapshot c

-- Done: at rest with the snapshot alone. No room: at rest with the old list. A call of the disk was refused: in doubt.
abbrev pub TruncateAnswers : {D T : Type 0} → (D → Told) → Header → List (List ℕ) → List ℕ → Store D
    → Result T JournalFault → Type 0
TruncateAnswers told header payloads snapshot new (Ok x) = IsStore told header new (snapshot ∷ [])
TruncateAnswers told header payloads snapshot new (Err (JournalFull used need area)) = IsStore told header new payloads
TruncateAnswers told header payloads snapshot new (Err DiskFault) =
    IsInDoubt (told new.journal.disk) header payloads snapshot

-- a truncation of a store at rest with this list to this snapshot
pub record Truncating {D T : Type 0} (told : D → Told) (header : Header) (old : Store D) (payloads : List (List ℕ))
    (snapshot : List ℕ) (new : Store D) (result : Result T JournalFault) : Type 0 where
  pub any_moment : LeavesOnly (told old.journal.disk) (told new.journal.disk) (IsOldOrSnapshot header payloads snapshot)
  pub answers : TruncateAnswers told header payloads snapshot new result

abbrev pub Truncates : {D T : Type 0} → (D → Told) → Header → Store D → List (List ℕ) → List ℕ → Store D
    → Result T JournalFault → Type 0
Truncates told header old payloads snapshot new result =
    IsStore told header old payloads → Truncating told header old payloads snapshot new result
