-- How a run of operations is cut for a chunk.
use Rattle.std.specs.Prelude.{◌≡◌, ◌↔◌, ℕ, Some, None, List, [], ◌++◌, take}
use Rattle.coda_fid.specs.declared.op.Record.{Record}
use Rattle.coda_cancel.specs.Cancel.{fold}
use Rattle.coda_cancel.specs.Numbers.{IsRising}
use Rattle.coda_cml.specs.declared.fault.FreezeFault.TheVariants.{Nothing}
use Rattle.coda_cml.specs.Segments.{IsCut, segments_of, end_of, records_upto, records_above, last_in}
use Rattle.coda_cml.specs.Chunks.{chunk_length, freeze_refusal}

-- the number of the last operation that goes when a chunk of the run is frozen
abbrev pub chunk_end : ℕ → ℕ → ℕ → List Record → ℕ
chunk_end now window cap run = end_of (take (chunk_length now window cap (segments_of run)) (segments_of run))

-- The operations of a run up to a number may go by themselves: they are its front, the number is that of the last of them, and none behind them drops a record up to there.
pub record MayGoUpTo (number : ℕ) (run : List Record) : Type 0 where
  pub whole : run ≡ records_upto number run ++ records_above number run
  pub last : last_in (records_upto number run) ≡ Some number
  pub cut : IsCut number [] run

-- where no refusal stands against it, the operations of a chunk may go by themselves
abbrev pub ChunksCutTheRun : Type 0
ChunksCutTheRun = (now window cap : ℕ) (run : List Record) → IsRising run → freeze_refusal None now window (segments_of run) ≡ None → MayGoUpTo (chunk_end now window cap run) run

-- there is nothing to send exactly where nothing is left of the run
abbrev pub NothingIsAnEmptyFold : Type 0
NothingIsAnEmptyFold = (now window : ℕ) (run : List Record) → IsRising run → (freeze_refusal None now window (segments_of run) ≡ Some Nothing) ↔ (fold run ≡ [])
