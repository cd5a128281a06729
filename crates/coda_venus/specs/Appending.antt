-- One payload more in a client's journal.
use Rattle.std.specs.Prelude.{◌≡◌, ℕ, true, false, List, [], ◌∷◌, ◌++◌, Some, Result, Ok, Err}
use Rattle.coda_disk.specs.Told.{Told, LeavesOnly}
use Rattle.coda_journal.specs.Journal.{IsJournal, IsBeforeOrAfter}
use Rattle.coda_journal.specs.Open.{Stands}
use Rattle.coda_journal.specs.declared.header.Header.{Header}
use Rattle.coda_journal.specs.declared.journal.Journal.{Journal}
use Rattle.coda_venus.specs.declared.refused.Refused.{Refused}
use Rattle.coda_venus.specs.declared.venus.Venus.{Venus}

-- What adding a payload answers where there is room: it is there; or a call of the disk failed, and the client is down.
abbrev pub WriteAnswers : {D T : Type 0} → (D → Told) → Header → List (List ℕ) → List ℕ → Venus D → Result T Refused → Type 0
WriteAnswers told header payloads payload new (Ok x) = (new.down ≡ false) × IsJournal told header new.journal (payloads ++ payload ∷ [])
WriteAnswers told header payloads payload new (Err e) = (new.down ≡ true) × Stands (told new.journal.disk) header payloads (Some payload)

pub record Writing {D T : Type 0} (told : D → Told) (header : Header) (old : Journal D) (payloads : List (List ℕ)) (payload : List ℕ) (new : Venus D) (result : Result T Refused) : Type 0 where
  pub any_moment : LeavesOnly (told old.disk) (told new.journal.disk) (IsBeforeOrAfter header payloads payload)
  pub answers : WriteAnswers told header payloads payload new result

abbrev pub Writes : {D T : Type 0} → (D → Told) → Header → Journal D → List (List ℕ) → List ℕ → Venus D → Result T Refused → Type 0
Writes told header old payloads payload new result = IsJournal told header old payloads → Writing told header old payloads payload new result
