-- What a log is at a moment.
use Rattle.std.specs.Prelude.{◌≡◌, ℕ, List, [], ◌++◌, Option, None}
use Rattle.coda_fid.specs.declared.op.Record.{Record}
use Rattle.coda_cancel.specs.Cancel.{fold}
use Rattle.coda_cancel.specs.Numbers.{AreUpTo, IsRising}
use Rattle.coda_cml.specs.declared.segment.Segment.{Segment}
use Rattle.coda_cml.specs.declared.frozen.Frozen.{Frozen}
use Rattle.coda_cml.specs.Segments.{segments_of}

-- the frozen chunk, where there is one, with its records and segments; the records and segments of the tail; the number of the last operation, and of the last chunk
pub record LogState : Type 0 where
  pub frozen : Option Frozen
  pub chunk : List Record
  pub chunk_segments : List Segment
  pub records : List Record
  pub segments : List Segment
  pub last : ℕ
  pub chunks : ℕ

-- a log without operations
abbrev pub empty_log : LogState
empty_log = record { frozen = None; chunk = []; chunk_segments = []; records = []; segments = []; last = 0; chunks = 0 }

-- the log of a run whose front is frozen: the records of each part, and its segments. The front is empty exactly where nothing is frozen
pub record IsLogOf (log : LogState) (front back : List Record) : Type 0 where
  pub rising : IsRising (front ++ back)
  pub reached : AreUpTo log.last (front ++ back)
  pub thawed : log.frozen ≡ None → front ≡ []
  pub sent : front ≡ [] → log.frozen ≡ None
  pub chunk : log.chunk ≡ fold front
  pub chunk_segments : log.chunk_segments ≡ segments_of front
  pub records : log.records ≡ fold back
  pub segments : log.segments ≡ segments_of back
