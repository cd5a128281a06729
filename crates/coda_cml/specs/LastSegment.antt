-- How the segment of a new operation takes in those whose records it dropped.
use Rattle.std.specs.Prelude.{ℕ, ◌-◌, nat_lt, if◌then◌else◌, Option, Some, None, List, [], ◌∷◌, ◌++◌}
use Rattle.coda_cml.specs.declared.segment.Segment.{Segment}
use Rattle.coda_cml.specs.Segments.{joined}
use Rattle.coda_cml.specs.Longest.{total}

-- the segments in front of the first that reaches the number; all, where there is no number
abbrev pub ended_before : Option ℕ → List Segment → List Segment
ended_before None segments = segments
ended_before (Some least) [] = []
ended_before (Some least) (segment ∷ rest) = if nat_lt segment.last least then segment ∷ ended_before (Some least) rest else []

-- and the others
abbrev pub reaching : Option ℕ → List Segment → List Segment
reaching None segments = []
reaching (Some least) [] = []
reaching (Some least) (segment ∷ rest) = if nat_lt segment.last least then reaching (Some least) rest else segment ∷ rest

-- segments and the one behind them as one
abbrev pub all_joined : List Segment → Segment → Segment
all_joined [] last = last
all_joined (segment ∷ rest) last = joined segment (all_joined rest last)

-- the segments behind an operation that dropped records from the least of these numbers on, and left so many
abbrev pub regrouped_last : List Segment → Segment → Option ℕ → ℕ → List Segment
regrouped_last segments single least count = ended_before least segments ++ record (all_joined (reaching least segments) single) { count = count - total (ended_before least segments) } ∷ []
