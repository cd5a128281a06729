-- What holds of traces, in a cell's words.
use Rattle.std.specs.Prelude.{◌≡◌, ℕ, List, ◌∷◌, ◌++◌, length, Some}
use Rattle.coda_actors.specs.Plain.{PlainDisk, Joins}
use Rattle.coda_journal.specs.declared.header.Header.{Header}
use Rattle.coda_script.specs.declared.line.Line.TheVariants as line
use Rattle.coda_shelves.specs.Cells.{Cell, Stand, stand_of}
use Rattle.coda_shelves.specs.Running.{IsKept}
use Rattle.coda_trace.specs.Told.{IsStep, AreSteps}
use Rattle.coda_trace.specs.declared.event.Event.{Event}
use Rattle.coda_trace.specs.declared.event.Note.TheVariants as note

-- A step in a trace: those before it lead to the cell in which its line happens, and those behind it go on from what that leaves.
pub record IsAmong (start : Cell) (before : List Event) (event : Event) (behind : List Event) (outside : List (List ℕ)) (end : Cell) : Type 0 where
  pub old : Cell
  pub new : Cell
  pub first : List (List ℕ)
  pub own : List (List ℕ)
  pub rest : List (List ℕ)
  pub led : AreSteps start before first old
  pub step : IsStep old event own new
  pub goes_on : AreSteps new behind rest end
  pub answered : outside ≡ first ++ (own ++ rest)

-- Each event of a trace is the step that stands at its place in the run, and a cell that is kept is kept by all of them.
pub record TracesAreRuns : Type 0 where
  pub each : (start end : Cell) (before behind : List Event) (event : Event) (outside : List (List ℕ)) → AreSteps start (before ++ event ∷ behind) outside end → IsAmong start before event behind outside end
  pub kept : (start end : Cell) (events : List Event) (outside : List (List ℕ)) → IsKept start → AreSteps start events outside end → IsKept end

-- What was found on a disk is what it held, or that with the entry whose append failed; and so many entries were found.
abbrev pub AreFound : {Entry : Type 0} → PlainDisk Entry → PlainDisk Entry → ℕ → Type 0
AreFound old new count = ((header : Header) × Joins header old new) × (count ≡ length new.history)

-- A recovery that an event notes counts the entries with which the actor came up: those that its disk held, or those and the one whose append failed.
pub record RecoveriesAreNoted : Type 0 where
  pub clients : (old new : Cell) (event : Event) (outside : List (List ℕ)) (client count : ℕ) → IsStep old event outside new → event.line ≡ line.RecoverClient client → event.note ≡ note.Recovered count
      → AreFound (old.clients client).disk (new.clients client).disk count
  pub replicas : (old new : Cell) (event : Event) (outside : List (List ℕ)) (server volume count : ℕ) → IsStep old event outside new → event.line ≡ line.RecoverReplica server volume → event.note ≡ note.Recovered count
      → (at : Stand) × (stand_of old volume ≡ Some at) × AreFound (old.replicas at.row server).disk (new.replicas at.row server).disk count
