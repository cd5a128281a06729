-- Which segments become a chunk, and when none do.
use Rattle.std.specs.Prelude.{ℕ, ◌+◌, ◌-◌, Bool, not, ◌==◌, ◌&&◌, ◌||◌, nat_le, max, if◌then◌else◌, Option, Some, None, List, [], ◌∷◌}
use Rattle.std.specs.List.{find}
use Rattle.coda_cml.specs.declared.segment.Segment.{Segment}
use Rattle.coda_cml.specs.declared.frozen.Frozen.{Frozen}
use Rattle.coda_cml.specs.declared.fault.FreezeFault.{FreezeFault}
use Rattle.coda_cml.specs.declared.fault.FreezeFault.TheVariants.{Nothing, Young}

-- whether a segment has a record
abbrev pub is_filled : Segment → Bool
is_filled segment = not (segment.count == 0)

-- how long ago the newest operation of a segment was performed; nothing where the clock is behind it
abbrev pub age : ℕ → Segment → ℕ
age now segment = now - segment.newest

-- whether a segment may go: it has no records, or each of its operations is so many seconds old
abbrev pub is_old : ℕ → ℕ → Segment → Bool
is_old now window segment = (segment.count == 0) || nat_le window (age now segment)

-- how many segments of the front are old enough and have so many records at most together
abbrev pub old_front : ℕ → ℕ → ℕ → List Segment → ℕ
old_front now window room [] = 0
old_front now window room (segment ∷ rest) = if is_old now window segment && nat_le segment.count room then 1 + old_front now window (room - segment.count) rest else 0

-- how many segments there are up to the first with a record
abbrev pub first_filled : List Segment → ℕ
first_filled [] = 0
first_filled (segment ∷ rest) = if is_filled segment then 1 else 1 + first_filled rest

-- how many segments a chunk has: as many of the front as may go together, but at least up to the first with a record
abbrev pub chunk_length : ℕ → ℕ → ℕ → List Segment → ℕ
chunk_length now window cap segments = max (old_front now window cap segments) (first_filled segments)

-- why a first segment with a record may not go, if it may not
abbrev pub too_young : ℕ → ℕ → Option Segment → Option FreezeFault
too_young now window None = Some Nothing
too_young now window (Some segment) = if nat_le window (age now segment) then None else Some (Young (age now segment) window)

-- why nothing is frozen: a chunk is frozen already, there is no record, or the first that would go is too young
abbrev pub freeze_refusal : Option Frozen → ℕ → ℕ → List Segment → Option FreezeFault
freeze_refusal (Some chunk) now window segments = Some (FreezeFault.Frozen chunk.number chunk.home)
freeze_refusal None now window segments = too_young now window (find is_filled segments)
