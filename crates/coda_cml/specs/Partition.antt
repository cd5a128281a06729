-- That segments part records.
use Rattle.std.specs.Prelude.{◌≡◌, ℕ, ◌<◌, ◌≤◌, List, [], ◌∷◌, ◌++◌, take, drop, length}
use Rattle.coda_fid.specs.declared.op.Record.{Record}
use Rattle.coda_cancel.specs.Cancel.{fold}
use Rattle.coda_cancel.specs.Numbers.{IsRising}
use Rattle.coda_cml.specs.declared.segment.Segment.{Segment}
use Rattle.coda_cml.specs.Segments.{segments_of}

-- the records have numbers from the first of these to the second
abbrev pub AreBetween : ℕ → ℕ → List Record → Type 0
AreBetween first last [] = Unit {0}
AreBetween first last (rec ∷ recs) = (first ≤ rec.number) × (rec.number ≤ last) × AreBetween first last recs

-- the segments begin above the number
abbrev pub BeginAbove : ℕ → List Segment → Type 0
BeginAbove number [] = Unit {0}
BeginAbove number (segment ∷ rest) = (number < segment.first) × BeginAbove number rest

-- the segments come in turn: each begins above the end of the one before it
abbrev pub AreInTurn : List Segment → Type 0
AreInTurn [] = Unit {0}
AreInTurn (segment ∷ rest) = (segment.first ≤ segment.last) × BeginAbove segment.last rest × AreInTurn rest

-- none of the segments goes further than the number
abbrev pub EndUpTo : ℕ → List Segment → Type 0
EndUpTo number [] = Unit {0}
EndUpTo number (segment ∷ rest) = (segment.last ≤ number) × EndUpTo number rest

-- the segments part the records: each begins above the one before it, and has the next records, as many as it counts, whose numbers lie in it; none is left over
abbrev pub ArePartedBy : List Segment → List Record → Type 0
ArePartedBy [] recs = recs ≡ []
ArePartedBy (segment ∷ rest) recs =
    (segment.first ≤ segment.last) × BeginAbove segment.last rest × (segment.count ≤ length recs) × AreBetween segment.first segment.last (take segment.count recs) × ArePartedBy rest (drop segment.count recs)

-- the segments of a chunk, and those behind it: all come in turn, up to the last operation, and those of each part have its records
pub record ArePartsOf (last : ℕ) (chunk_segments : List Segment) (chunk : List Record) (segments : List Segment) (records : List Record) : Type 0 where
  pub in_turn : AreInTurn (chunk_segments ++ segments)
  pub ended : EndUpTo last (chunk_segments ++ segments)
  pub chunk_parts : ArePartedBy chunk_segments chunk
  pub parts : ArePartedBy segments records

-- the segments of a run part what is left of it
abbrev pub SegmentsPartTheFold : Type 0
SegmentsPartTheFold = (run : List Record) → IsRising run → ArePartedBy (segments_of run) (fold run)
