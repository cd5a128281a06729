-- How the code keeps segments: it joins neighbours, and counts their records again.
use Rattle.std.specs.Prelude.{ℕ, ◌+◌, ◌<◌, Bool, true, false, not, if◌then◌else◌, ◌&&◌, nat_le, nat_lt, max, List, [], ◌∷◌, drop}
use Rattle.std.specs.List.{list_any}
use Rattle.coda_fid.specs.declared.op.Record.{Record}
use Rattle.coda_cancel.specs.declared.join.Join.{Join}
use Rattle.coda_cml.specs.declared.segment.Segment.{Segment}

-- whether the operation is above the number and dropped a record up to it
abbrev pub is_within : ℕ → Join → Bool
is_within number join = nat_le join.least number && nat_lt number join.number

-- whether an operation above the number dropped a record up to it
abbrev pub is_inside : List Join → ℕ → Bool
is_inside joins number = list_any (is_within number) joins

-- the operations are below the number
abbrev pub AreJoinsBelow : ℕ → List Join → Type 0
AreJoinsBelow number [] = Unit {0}
AreJoinsBelow number (join ∷ rest) = (join.number < number) × AreJoinsBelow number rest

-- the operations are above this one
abbrev pub AreJoinsAbove : ℕ → List Join → Type 0
AreJoinsAbove number [] = Unit {0}
AreJoinsAbove number (join ∷ rest) = (number < join.number) × AreJoinsAbove number rest

-- the numbers of the operations rise
abbrev pub DoNumbersRise : List Join → Type 0
DoNumbersRise [] = Unit {0}
DoNumbersRise (join ∷ rest) = AreJoinsAbove join.number rest × DoNumbersRise rest

-- they are above this one, and dropped records above its least one
abbrev pub AreJoinsBehind : Join → List Join → Type 0
AreJoinsBehind join [] = Unit {0}
AreJoinsBehind join (next ∷ rest) = (join.least < next.least) × (join.number < next.number) × AreJoinsBehind join rest

-- the numbers of the operations rise, and so do the least ones that they dropped
abbrev pub DoJoinsRise : List Join → Type 0
DoJoinsRise [] = Unit {0}
DoJoinsRise (join ∷ rest) = AreJoinsBehind join rest × DoJoinsRise rest

-- whether the last operation dropped records only from this number on
abbrev pub ends_from : ℕ → List Join → Bool
ends_from least [] = false
ends_from least (join ∷ []) = nat_le least join.least
ends_from least (join ∷ next ∷ rest) = ends_from least (next ∷ rest)

-- a segment with the next one, as to its ends and times
abbrev pub widened : Segment → Segment → Segment
widened segment next = record { first = segment.first; last = next.last; count = segment.count; newest = max segment.newest next.newest }

-- a segment in front of others, by whether it ends there
abbrev pub widen_front : Bool → Segment → List Segment → List Segment
widen_front true segment rest = segment ∷ rest
widen_front false segment [] = segment ∷ []
widen_front false segment (next ∷ rest) = widened segment next ∷ rest

-- the segments without the ends that pass a test
abbrev pub rejoined : (ℕ → Bool) → List Segment → List Segment
rejoined is_gone [] = []
rejoined is_gone (segment ∷ rest) = widen_front (not (is_gone segment.last)) segment (rejoined is_gone rest)

-- how many records stand in front of the first with a greater number
abbrev pub leading : ℕ → List Record → ℕ
leading number [] = 0
leading number (rec ∷ recs) = if nat_le rec.number number then 1 + leading number recs else 0

-- the segments with the counts of these records
abbrev pub recounted : List Record → List Segment → List Segment
recounted recs [] = []
recounted recs (segment ∷ rest) = record segment { count = leading segment.last recs } ∷ recounted (drop (leading segment.last recs) recs) rest
