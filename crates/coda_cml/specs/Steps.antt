-- What each call makes of a log.
use Rattle.std.specs.Prelude.{ℕ, ◌+◌, ◌==◌, if◌then◌else◌, Option, Some, None, List, [], ◌∷◌, ◌++◌, take, drop}
use Rattle.coda_fid.specs.declared.op.Record.{Record}
use Rattle.coda_cancel.specs.Cancel.{add, added}
use Rattle.coda_cancel.specs.Numbers.{dropped, least}
use Rattle.coda_cancel.specs.Joins.{noted, joins_of}
use Rattle.coda_certify.specs.declared.verdict.Verdict.{Verdict}
use Rattle.coda_certify.specs.declared.verdict.Verdict.TheVariants.{Applied, Conflict}
use Rattle.coda_cml.specs.declared.fault.SettleFault.{SettleFault}
use Rattle.coda_cml.specs.declared.fault.SettleFault.TheVariants.{NotFrozen, WrongNumber}
use Rattle.coda_cml.specs.declared.segment.Segment.{Segment}
use Rattle.coda_cml.specs.declared.frozen.Frozen.{Frozen}
use Rattle.coda_cml.specs.Segments.{single, end_of}
use Rattle.coda_cml.specs.Regrouping.{is_inside, rejoined, leading, recounted}
use Rattle.coda_cml.specs.State.{LogState}

-- the segments of the tail after an operation
abbrev pub segments_after : List Segment → List Record → Record → List Segment
segments_after segments recs rec = recounted (add recs rec) (rejoined (is_inside (noted rec.number (least (dropped recs rec)))) (segments ++ single [] rec ∷ []))

-- the log after an operation
abbrev pub appended_to : LogState → Record → LogState
appended_to log rec = record log { records = add log.records rec; segments = segments_after log.segments log.records rec; last = rec.number }

-- how many records the first segments have, so many
abbrev pub records_in : ℕ → LogState → ℕ
records_in length log = leading (end_of (take length log.segments)) log.records

-- the log whose first segments, so many, are frozen as this chunk
abbrev pub frozen_at : LogState → ℕ → Frozen → LogState
frozen_at log length chunk = record log {
  frozen = Some chunk;
  chunk = take (records_in length log) log.records;
  chunk_segments = take length log.segments;
  records = drop (records_in length log) log.records;
  segments = drop length log.segments;
  chunks = chunk.number;
}

-- the log whose first segments, so many, are frozen for a server
abbrev pub frozen_to : LogState → ℕ → ℕ → LogState
frozen_to log home length = frozen_at log length (record { number = log.chunks + 1; home = home })

-- the log without the chunk
abbrev pub applied_to : LogState → LogState
applied_to log = record log { frozen = None; chunk = []; chunk_segments = [] }

-- the log in which the tail was added to the chunk
abbrev pub thawed : LogState → LogState
thawed log = record {
  frozen = None;
  chunk = [];
  chunk_segments = [];
  records = added log.chunk log.records;
  segments = recounted (added log.chunk log.records) (rejoined (is_inside (joins_of log.chunk log.records)) (log.chunk_segments ++ log.segments));
  last = log.last;
  chunks = log.chunks;
}

-- the log without the tail
abbrev pub given_up : LogState → LogState
given_up log = record log { records = []; segments = [] }

-- the log after a verdict on its chunk: applied, the chunk is done with, and a conflict puts it back
abbrev pub settled : Verdict → LogState → LogState
settled Applied log = applied_to log
settled (Conflict number why) log = thawed log

-- what is left of a run after a verdict on its front
abbrev pub pending_after : Verdict → List Record → List Record → List Record
pending_after Applied front back = back
pending_after (Conflict number why) front back = front ++ back

-- why a verdict is not taken: no chunk is frozen, or one of another number
abbrev pub settle_refusal : Option Frozen → ℕ → Option SettleFault
settle_refusal None number = Some (NotFrozen number)
settle_refusal (Some chunk) number = if chunk.number == number then None else Some (WrongNumber chunk.number number)
