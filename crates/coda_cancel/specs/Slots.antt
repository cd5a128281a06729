-- Places for records in the order of their numbers; what stood in one may be gone.
use Rattle.std.specs.Prelude.{◌≡◌, ℕ, ◌-◌, ◌≤◌, ◌<◌, Bool, true, false, Option, Some, None, min, List, [], ◌∷◌, length}
use Rattle.std.specs.Vec.{vec_len, vec_capacity}
use Rattle.coda_fid.specs.declared.op.Record.{Record}
use Rattle.coda_cancel.specs.declared.shelf.Slot.{Slot}
use Rattle.coda_cancel.specs.declared.shelf.Slot.TheVariants.{Gone, Kept}
use Rattle.coda_cancel.specs.declared.shelf.Shelf.TheInside.{Inside}
use Rattle.coda_cancel.specs.Shelved.{Shelved}

-- the number of a place
abbrev pub number_of : Slot → ℕ
number_of (Gone number) = number
number_of (Kept rec) = rec.number

-- whether a record stands there
abbrev pub is_kept : Slot → Bool
is_kept (Gone number) = false
is_kept (Kept rec) = true

-- the record that stands there
abbrev pub record_of : Slot → Option Record
record_of (Gone number) = None
record_of (Kept rec) = Some rec

-- a place in front of records
abbrev pub put_slot : Slot → List Record → List Record
put_slot (Gone number) recs = recs
put_slot (Kept rec) recs = rec ∷ recs

-- the records that stand in the places
abbrev pub kept_in : List Slot → List Record
kept_in [] = []
kept_in (slot ∷ slots) = put_slot slot (kept_in slots)

-- the numbers of the places are above this one
abbrev pub AreSlotsAbove : ℕ → List Slot → Type 0
AreSlotsAbove number [] = Unit {0}
AreSlotsAbove number (slot ∷ slots) = (number < number_of slot) × AreSlotsAbove number slots

-- the numbers of the places rise
abbrev pub DoSlotsRise : List Slot → Type 0
DoSlotsRise [] = Unit {0}
DoSlotsRise (slot ∷ slots) = AreSlotsAbove (number_of slot) slots × DoSlotsRise slots

-- the last place, if there is one, has a record
abbrev pub is_last_kept : List Slot → Bool
is_last_kept [] = true
is_last_kept (slot ∷ []) = is_kept slot
is_last_kept (slot ∷ next ∷ rest) = is_last_kept (next ∷ rest)

-- how many more records there is room for: in the places, and where all are handed out
abbrev pub room_in : Inside → ℕ
room_in shelf = min (vec_capacity shelf.slots) (vec_capacity shelf.spare) - vec_len shelf.slots

-- what contracts see
abbrev pub view_of : Inside → Shelved
view_of shelf = record { records = kept_in shelf.slots.items; room = room_in shelf }

-- The numbers of the places rise, and the last has a record; the records are counted; and there is room to hand all out.
pub record IsShelf (shelf : Inside) : Type 0 where
  pub rising : DoSlotsRise shelf.slots.items
  pub last : is_last_kept shelf.slots.items ≡ true
  pub counted : shelf.count ≡ length (kept_in shelf.slots.items)
  pub empty : vec_len shelf.spare ≡ 0
  pub room : vec_len shelf.slots ≤ vec_capacity shelf.spare
