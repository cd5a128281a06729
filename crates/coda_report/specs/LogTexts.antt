-- The text of a log: its segments in turn, and below each the records that are left of it.
use Rattle.std.specs.Prelude.{◌≡◌, ℕ, ◌+◌, List, [], ◌∷◌, ◌++◌, length, take, drop, codes, map, Option, Some, None}
use Rattle.std.specs.List.{flat_map, AllByRecursion}
use Rattle.std.specs.Fmt.{decimal}
use Rattle.coda_fid.specs.declared.op.Record.{Record}
use Rattle.coda_cancel.specs.Cancel.{fold}
use Rattle.coda_cml.specs.declared.frozen.Frozen.{Frozen}
use Rattle.coda_cml.specs.declared.segment.Segment.{Segment}
use Rattle.coda_cml.specs.Partition.{AreBetween}
use Rattle.coda_cml.specs.Segments.{segments_of}
use Rattle.coda_cml.specs.State.{LogState}
use Rattle.coda_report.specs.Printing.{line}
use Rattle.coda_report.specs.Records.{record_line}

-- the number of the chunk that is on its way, or a dash
abbrev pub chunk_number_text : Option Frozen → List ℕ
chunk_number_text None = codes "-"
chunk_number_text (Some chunk) = decimal chunk.number

-- how many records a log has
abbrev pub count_text : ℕ → List ℕ
count_text count = codes "log records " ++ decimal count ++ codes " chunk "

-- the same, and the chunk that is on its way
abbrev pub counts_text : LogState → List ℕ
counts_text log = count_text (length log.chunk + length log.records) ++ chunk_number_text log.frozen

-- the first line of a log
abbrev pub log_line : LogState → List ℕ
log_line log = line (counts_text log)

-- the line of a segment: the numbers of its first and its last operation, and whether it is frozen or open
abbrev pub segment_line : List ℕ → Segment → List ℕ
segment_line word segment = line (codes "segment " ++ decimal segment.first ++ 32 ∷ decimal segment.last ++ 32 ∷ word)

-- segments, and below each the next records, as many as it counts
unfoldable pub segments_text : List ℕ → List Segment → List Record → List ℕ
segments_text word [] recs = []
segments_text word (segment ∷ rest) recs =
    segment_line word segment ++ flat_map record_line (take segment.count recs) ++ segments_text word rest (drop segment.count recs)

-- a log: its first line, the segments of the chunk that is on its way, and those behind them
abbrev pub log_text : LogState → List ℕ
log_text log = log_line log ++ segments_text (codes "frozen") log.chunk_segments log.chunk ++ segments_text (codes "open") log.segments log.records

-- the log of operations whose front is on its way: what cancellation leaves of each part, with its segments
abbrev pub log_of_runs : Option Frozen → List Record → List Record → LogState
log_of_runs frozen front back =
    record { frozen = frozen; chunk = fold front; chunk_segments = segments_of front; records = fold back; segments = segments_of back; last = 0; chunks = 0 }

-- ---- what a reader of the text may rest on

-- a segment as it is shown, and the records below it
pub record ShownSegment : Type 0 where
  pub segment : Segment
  pub below : List Record

-- a segment and the records below it, each on a line
abbrev pub shown_segment_text : List ℕ → ShownSegment → List ℕ
shown_segment_text word shown = segment_line word shown.segment ++ flat_map record_line shown.below

-- the numbers of the records below a segment lie in it
abbrev pub IsAbove : ShownSegment → Type 0
IsAbove shown = AreBetween shown.segment.first shown.segment.last shown.below

-- what is shown has the segments in turn and each record once, in the order of the log, below the segment that its number lies in
pub record AreShownAs (segments : List Segment) (records : List Record) (shown : List ShownSegment) : Type 0 where
  pub in_turn : map (λ s. s.segment) shown ≡ segments
  pub once : flat_map (λ s. s.below) shown ≡ records
  pub below : AllByRecursion IsAbove shown

-- a text shows a log: behind its first line stand the segments that are frozen, and then the open ones, each with its records below it
abbrev pub ShowsLog : LogState → List ℕ → Type 0
ShowsLog log text =
    (frozen : List ShownSegment) × (tail : List ShownSegment) × AreShownAs log.chunk_segments log.chunk frozen × AreShownAs log.segments log.records tail × (text ≡ log_line log ++ flat_map (shown_segment_text (codes "frozen")) frozen ++ flat_map (shown_segment_text (codes "open")) tail)
