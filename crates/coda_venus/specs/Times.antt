-- By which time and window a freeze that the journal has is made again.
use Rattle.std.specs.Prelude.{ℕ, ◌+◌, ◌==◌, nat_lt, max, if◌then◌else◌, List, [], ◌∷◌, take}
use Rattle.coda_cml.specs.declared.segment.Segment.{Segment}
use Rattle.coda_venus.specs.State.{ended_by}

-- the time of the newest operation of a segment with records
abbrev pub newest_of : Segment → ℕ
newest_of segment = if segment.count == 0 then 0 else segment.newest

-- the greatest of these times; 0 where no segment has a record
abbrev pub newest_in : List Segment → ℕ
newest_in [] = 0
newest_in (segment ∷ rest) = max (newest_of segment) (newest_in rest)

-- A time and a window by which nothing behind the last operation goes that is newer than what goes up to it.
abbrev pub time_of : ℕ → List Segment → ℕ × ℕ
time_of last segments =
    if nat_lt (newest_in (take (ended_by last segments) segments)) (newest_in segments) then (newest_in (take (ended_by last segments) segments) + 1, 1) else (0, 0)
