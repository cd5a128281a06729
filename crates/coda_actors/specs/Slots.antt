-- What a slot has, and what its disk counts.
use Rattle.std.specs.Prelude.{◌≡◌, ℕ, Bool, true, false, not, Option, None}
use Rattle.coda_disk.specs.Bays.{plus}
use Rattle.coda_actors.specs.Form.{Form}
use Rattle.coda_actors.specs.declared.slot.Mounting.{Mounting}
use Rattle.coda_actors.specs.declared.slot.Mounting.TheVariants.{Entries, DiskFault}
use Rattle.coda_actors.specs.declared.slot.Slot.{Slot}
use Rattle.coda_actors.specs.declared.slot.Slot.TheVariants.{Vacant, Spare, Stopped, Started}

-- a line made the actor
abbrev pub is_made : {A D : Type 0} → Slot A D → Bool
is_made Vacant = false
is_made (Spare disk) = false
is_made (Stopped header disk) = true
is_made (Started header actor) = true

-- the actor is up
abbrev pub is_up : {A D : Type 0} → Form A D → Slot A D → Bool
is_up form (Started header actor) = not (form.is_down actor)
is_up form slot = false

-- An actor that was opened so is up; is down, but made; or isn't made.
abbrev pub IsOpened : {A D : Type 0} → Form A D → Mounting → Slot A D → Type 0
IsOpened form (Entries count) slot = is_up form slot ≡ true
IsOpened form DiskFault slot = (is_made slot ≡ true) × (is_up form slot ≡ false)
IsOpened form mounting slot = is_made slot ≡ false

-- An actor that was recovered so is up, or is still down.
abbrev pub IsRecovered : {A D : Type 0} → Form A D → Mounting → Slot A D → Type 0
IsRecovered form (Entries count) slot = is_up form slot ≡ true
IsRecovered form mounting slot = is_up form slot ≡ false

-- what the disk of the slot counts, and nothing where the slot has none
abbrev pub count_in : {A D : Type 0} → Form A D → (D → ℕ) → Slot A D → ℕ
count_in form count Vacant = 0
count_in form count (Spare disk) = count disk
count_in form count (Stopped header disk) = count disk
count_in form count (Started header actor) = count (form.disk actor)

-- a sum with what the disk of the slot counts
abbrev pub sum_with : {A D : Type 0} → Form A D → (D → ℕ) → Slot A D → ℕ → ℕ
sum_with form count Vacant sum = sum
sum_with form count (Spare disk) sum = plus sum (count disk)
sum_with form count (Stopped header disk) sum = plus sum (count disk)
sum_with form count (Started header actor) sum = plus sum (count (form.disk actor))

-- how many further calls of the slot's disk pass; nothing where all do
abbrev pub passes_in : {A D : Type 0} → Form A D → (D → Option ℕ) → Slot A D → Option ℕ
passes_in form passes Vacant = None
passes_in form passes (Spare disk) = passes disk
passes_in form passes (Stopped header disk) = passes disk
passes_in form passes (Started header actor) = passes (form.disk actor)
