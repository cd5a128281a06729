-- How cancellation joins neighbouring operations of a run.
use Rattle.std.specs.Prelude.{◌≡◌, ℕ, ◌+◌, Bool, true, false, not, ◌==◌, ◌&&◌, ◌||◌, nat_le, nat_lt, max, if◌then◌else◌, Option, Some, None, List, [], ◌∷◌}
use Rattle.std.specs.List.{list_any}
use Rattle.coda_fid.specs.declared.op.Record.{Record}
use Rattle.coda_cancel.specs.Cancel.{add, fold}
use Rattle.coda_cancel.specs.Numbers.{dropped}
use Rattle.coda_cml.specs.declared.segment.Segment.{Segment}

-- whether an operation of the run with a greater number drops a record with a number up to this, as the run is added to the records
abbrev pub is_joined : ℕ → List Record → List Record → Bool
is_joined number recs [] = false
is_joined number recs (rec ∷ run) = (nat_lt number rec.number && list_any (λ gone. nat_le gone number) (dropped recs rec)) || is_joined number (add recs rec) run

-- none does: a segment may end there
abbrev pub IsCut : ℕ → List Record → List Record → Type 0
IsCut number recs run = is_joined number recs run ≡ false

-- how many of the records have the number
abbrev pub count_of : ℕ → List Record → ℕ
count_of number [] = 0
count_of number (rec ∷ recs) = (if rec.number == number then 1 else 0) + count_of number recs

-- an operation alone, of which these records are left
abbrev pub single : List Record → Record → Segment
single recs rec = record { first = rec.number; last = rec.number; count = count_of rec.number recs; newest = rec.time }

-- two neighbouring segments as one
abbrev pub joined : Segment → Segment → Segment
joined earlier later = record { first = earlier.first; last = later.last; count = earlier.count + later.count; newest = max earlier.newest later.newest }

-- a segment in front of others, by whether it ends there
abbrev pub put_front : Bool → Segment → List Segment → List Segment
put_front true segment rest = segment ∷ rest
put_front false segment [] = segment ∷ []
put_front false segment (next ∷ rest) = joined segment next ∷ rest

-- the operations of a run, where those are neighbours between which no end is are one
abbrev pub segments_by : (ℕ → Bool) → List Record → List Record → List Segment
segments_by is_end recs [] = []
segments_by is_end recs (rec ∷ run) = put_front (is_end rec.number) (single recs rec) (segments_by is_end recs run)

-- the segments of a run
abbrev pub segments_of : List Record → List Segment
segments_of run = segments_by (λ number. not (is_joined number [] run)) (fold run) run

-- the records with numbers up to this
abbrev pub records_upto : ℕ → List Record → List Record
records_upto number [] = []
records_upto number (rec ∷ recs) = if nat_le rec.number number then rec ∷ records_upto number recs else records_upto number recs

-- the records with numbers above this
abbrev pub records_above : ℕ → List Record → List Record
records_above number [] = []
records_above number (rec ∷ recs) = if nat_lt number rec.number then rec ∷ records_above number recs else records_above number recs

-- the number of the last operation of a run, if it has one
abbrev pub last_in : List Record → Option ℕ
last_in [] = None
last_in (rec ∷ []) = Some rec.number
last_in (rec ∷ next ∷ rest) = last_in (next ∷ rest)

-- the number of the last operation of the segments, 0 where there are none
abbrev pub end_of : List Segment → ℕ
end_of [] = 0
end_of (segment ∷ []) = segment.last
end_of (segment ∷ next ∷ rest) = end_of (next ∷ rest)
