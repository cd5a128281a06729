-- What holds of all runs.
use Rattle.std.specs.Prelude.{◌≡◌, ◌≢◌, ℕ, Bool, true, Some, List, [], ◌∷◌, ◌++◌, ◌⊎◌}
use Rattle.coda_fid.specs.declared.fid.Fid.{Fid}
use Rattle.coda_fid.specs.declared.op.Op.{Op}
use Rattle.coda_cancel.specs.Dropping.{creates}
use Rattle.coda_cancel.specs.Cancel.{fold}
use Rattle.coda_cml.specs.Segments.{records_upto, records_above}
use Rattle.coda_cml.specs.Steady.{IsFresh}
use Rattle.coda_certify.specs.declared.verdict.Verdict.{Verdict}
use Rattle.coda_plain.specs.Deeds.{Deed, settlements_of, pending_of, MayFreeze, MayDo, AreLawful}
use Rattle.coda_plain.specs.Logs.{front_of, back_of, LogAfter, BeginsWith}
use Rattle.coda_plain.specs.Cell.{Actor, PlainCell, empty_cell, Joins, found_in}
use Rattle.coda_plain.specs.Moves.{TheClient, TheReplica, Move, Recovers, May, after, done_on, IsNext, Moved}
use Rattle.coda_plain.specs.Sound.{IsSound}
use Rattle.coda_plain.specs.Promises.{ArePromised}

-- what may happen keeps a cell sound
abbrev pub MovesKeepSound : Type 0
MovesKeepSound = (cell : PlainCell) (move : Move) → May cell move → IsSound cell → IsSound (after cell move)

-- whatever happened in a cell that was empty, it is sound
abbrev pub RunsAreSound : Type 0
RunsAreSound = (moves : List Move) (cell : PlainCell) → Moved empty_cell moves cell → IsSound cell

-- Of a sound cell the histories keep what is promised, whichever of the failed entries join.
abbrev pub SoundCellsArePromised : Type 0
SoundCellsArePromised = (cell : PlainCell) → IsSound cell → (joins : Joins) → ArePromised (found_in cell joins)

-- The two runs of a log are what is pending, and each entry makes of them what it makes of a log.
abbrev pub LogsGoOn : Type 0
LogsGoOn = (deeds : List Deed) (deed : Deed) → AreLawful deeds → MayDo deeds deed → (front_of deeds ++ back_of deeds ≡ pending_of deeds) × LogAfter (front_of deeds) (back_of deeds) deed (front_of (deeds ++ deed ∷ [])) (back_of (deeds ++ deed ∷ []))

-- a history that is recovered is the one before, or that one with the entry whose append failed
abbrev pub IsRecovered : {E : Type 0} → Actor E → List E → Type 0
IsRecovered {E} old history = (history ≡ old.history) ⊎ ((entry : E) × (old.failed ≡ Some entry) × (history ≡ old.history ++ entry ∷ []))

-- Whatever happens, no history loses an entry that it has: each begins with what it was. What was learned of other replicas is what it was.
pub record HistoriesStay : Type 0 where
  pub clients : (moves : List Move) (old new : PlainCell) → Moved old moves new → (client : ℕ) → BeginsWith (new.clients client).history (old.clients client).history
  pub replicas : (moves : List Move) (old new : PlainCell) → Moved old moves new → (server volume : ℕ) → BeginsWith (new.replicas server volume).history (old.replicas server volume).history
  pub learned : (moves : List Move) (old new : PlainCell) → Moved old moves new → new.learned ≡ old.learned
  pub client_recovers : (cell : PlainCell) (client : ℕ) (joins : Bool) → IsRecovered (cell.clients client) ((after cell (Recovers (TheClient client) joins)).clients client).history
  pub replica_recovers : (cell : PlainCell) (server volume : ℕ) (joins : Bool) → IsRecovered (cell.replicas server volume) ((after cell (Recovers (TheReplica server volume) joins)).replicas server volume).history

-- In a sound cell an operation that creates the next objects of its client alone creates nothing that a pending one mentions.
abbrev pub NextObjectsAreFresh : Type 0
NextObjectsAreFresh = (cell : PlainCell) (client volume : ℕ) (op : Op) → IsSound cell → client ≢ 0
    → ((fid : Fid) → creates fid op ≡ true → IsNext volume (done_on cell client volume) client op fid) → IsFresh op (pending_of (done_on cell client volume))

-- What a run makes of a sound cell: it is sound again; whichever of the failed entries join, its histories keep what is
-- promised; and each begins with what it was.
pub record IsRun (old new : PlainCell) : Type 0 where
  pub sound : IsSound new
  pub promised : (joins : Joins) → ArePromised (found_in new joins)
  pub clients : (client : ℕ) → BeginsWith (new.clients client).history (old.clients client).history
  pub replicas : (server volume : ℕ) → BeginsWith (new.replicas server volume).history (old.replicas server volume).history

-- Whatever happened in a sound cell, what that left is a run of it.
abbrev pub MovesRun : Type 0
MovesRun = (moves : List Move) (old new : PlainCell) → IsSound old → Moved old moves new → IsRun old new

-- The premises can be met: in some run from an empty cell a client creates a file, sends it, and settles its chunk.
abbrev pub SomeChunkIsSettled : Type 0
SomeChunkIsSettled =
    (moves : List Move) × (cell : PlainCell) × (verdict : Verdict) × Moved empty_cell moves cell × (settlements_of (done_on cell 1 7) ≡ record { number = 1; verdict = verdict } ∷ [])

-- Where a chunk is frozen, what cancellation leaves of what is pending is what it leaves of the chunk, and then what it leaves of the rest.
abbrev pub FreezesPartTheLog : Type 0
FreezesPartTheLog = (past : List Deed) (number last : ℕ) → AreLawful past → MayFreeze past number last
    → fold (pending_of past) ≡ fold (records_upto last (pending_of past)) ++ fold (records_above last (pending_of past))
