-- How the slots of a crew and the disks of a bay stand for the plain actors of the crew.
use Rattle.std.specs.Prelude.{◌≡◌, ◌≢◌, ◌+◌, ℕ, Bool, true, false, List, [], ◌∷◌, Option, Some, None, IsSome}
use Rattle.std.specs.BTreeMap.{BTreeMap, get}
use Rattle.std.specs.Ordering.{nat_cmp}
use Rattle.coda_disk.specs.Told.{Told}
use Rattle.coda_actors.specs.Form.{Form}
use Rattle.coda_actors.specs.Plain.{PlainActor, Unmade, Deed, Step}
use Rattle.coda_actors.specs.Fits.{Fits, FitsHeld, StandsFor, AsksOwn, OutFits}
use Rattle.coda_actors.specs.Slots.{sum_with}
use Rattle.coda_actors.specs.declared.slot.Slot.{Slot}
use Rattle.coda_actors.specs.declared.slot.Slot.TheVariants.{Vacant}

abbrev pub slot_or_vacant : {A D : Type 0} → Option (Slot A D) → Slot A D
slot_or_vacant None = Vacant
slot_or_vacant (Some slot) = slot

-- the slot of a number, which is vacant where the number has no place
abbrev pub slot_at : {A D : Type 0} → BTreeMap ℕ (Slot A D) → ℕ → Slot A D
slot_at slots k = slot_or_vacant (get nat_cmp slots k)

-- the number has a place, vacant or not
abbrev pub HasPlace : {A D : Type 0} → BTreeMap ℕ (Slot A D) → ℕ → Type 0
HasPlace slots k = IsSome (get nat_cmp slots k)

-- each slot is as it was
abbrev pub KeepsSlots : {A D : Type 0} → BTreeMap ℕ (Slot A D) → BTreeMap ℕ (Slot A D) → Type 0
KeepsSlots old new = (k : ℕ) → slot_at new k ≡ slot_at old k

-- each slot, but that of this number, is as it was
abbrev pub KeepsOtherSlots : {A D : Type 0} → ℕ → BTreeMap ℕ (Slot A D) → BTreeMap ℕ (Slot A D) → Type 0
KeepsOtherSlots number old new = (k : ℕ) → k ≢ number → slot_at new k ≡ slot_at old k

-- The actors whose disks have the numbers of a crew: slot by slot, they stand for its plain actors.
abbrev pub FitsAll : {A D : Type 0} → (form : Form A D) → (D → Told) → (ℕ → Bool) → (ℕ → Bool) → (ℕ → Told) → BTreeMap ℕ (Slot A D) → (ℕ → PlainActor form.Entry) → Type 0
FitsAll form told of out has slots plain = (k : ℕ) → of k ≡ true → Fits form told (out k) (has k) (slot_at slots k) (plain k)

-- a number of the crew is out exactly where its slot has the disk, and any other number has no slot
abbrev pub OutAt : {A D : Type 0} → Bool → Bool → Slot A D → Type 0
OutAt true out slot = OutFits out slot
OutAt false out slot = slot ≡ Vacant

abbrev pub OutAll : {A D : Type 0} → (ℕ → Bool) → (ℕ → Bool) → BTreeMap ℕ (Slot A D) → Type 0
OutAll of out slots = (k : ℕ) → OutAt (of k) (out k) (slot_at slots k)

-- each actor that was made asks for a header of its kind
abbrev pub OwnAll : {A D : Type 0} → Form A D → BTreeMap ℕ (Slot A D) → Type 0
OwnAll form slots = (k : ℕ) → AsksOwn form (slot_at slots k)

-- each disk of the crew, which the bay has, stands for its plain actor
abbrev pub StandsAll : {A D : Type 0} → (form : Form A D) → (ℕ → Bool) → (ℕ → Told) → (ℕ → PlainActor form.Entry) → Type 0
StandsAll form of has plain = (k : ℕ) → of k ≡ true → StandsFor form (has k) (plain k).disk

-- no line made any actor of the crew, and the disks of the bay stand for the plain ones
abbrev pub IsAtEntry : {A D : Type 0} → (form : Form A D) → (ℕ → Bool) → (ℕ → Told) → (ℕ → PlainActor form.Entry) → Type 0
IsAtEntry form of has plain = (k : ℕ) → of k ≡ true → ((plain k).life ≡ Unmade) × ((plain k).left ≡ None) × StandsFor form (has k) (plain k).disk

-- this is done to the actor of one number, and each other one is as it was
abbrev pub CrewStep : {A D : Type 0} → (form : Form A D) → (ℕ → PlainActor form.Entry) → ℕ → Deed form.Entry → (ℕ → PlainActor form.Entry) → Type 0
CrewStep form old number deed new = Step form (old number) deed (new number) × ((k : ℕ) → k ≢ number → new k ≡ old k)

-- the crew that such a step leaves, and the slots and the bay stand for it
abbrev pub Takes : {A D : Type 0} → (form : Form A D) → (D → Told) → (ℕ → Bool) → (ℕ → PlainActor form.Entry) → ℕ → Deed form.Entry → (ℕ → Bool) → (ℕ → Told) → BTreeMap ℕ (Slot A D) → Type 0
Takes form told of old number deed out has slots = (new : ℕ → PlainActor form.Entry) × CrewStep form old number deed new × FitsAll form told of out has slots new

-- a disk that a slot has is out
abbrev pub IsOutIfHeld : {A D : Type 0} → Bool → Slot A D → Type 0
IsOutIfHeld out Vacant = Unit {0}
IsOutIfHeld out slot = out ≡ true

-- a number of which the slot had the disk isn't out once it was given back
abbrev pub out_after : {A D : Type 0} → Bool → Slot A D → Bool
out_after out Vacant = out
out_after out slot = false

-- the disk stands for the plain actor, in its slot or with the bay
abbrev pub Lies : {A D : Type 0} → (form : Form A D) → (D → Told) → Told → Slot A D → PlainActor form.Entry → Type 0
Lies form told has Vacant plain = StandsFor form has plain.disk
Lies form told has slot plain = FitsHeld form told slot plain

-- the disk is honest still, and a crash leaves nothing of it that it couldn't leave before
abbrev pub LeavesNoMore : Told → Told → Type 0
LeavesNoMore old new = new.honest × ((image : List ℕ) → new.may_leave image → old.may_leave image)

-- each number of a crew is out where it was, and a crash of the bay's disk of it leaves nothing that it couldn't leave before
abbrev pub LeavesBe : (ℕ → Bool) → (ℕ → Bool) → (ℕ → Bool) → (ℕ → Told) → (ℕ → Told) → Type 0
LeavesBe of out0 out1 has0 has1 = (k : ℕ) → of k ≡ true → (out1 k ≡ out0 k) × ((has0 k).honest → LeavesNoMore (has0 k) (has1 k))

-- a sum with what the disks of all slots count
abbrev pub sum_all : {A D : Type 0} → Form A D → (D → ℕ) → List (ℕ × Slot A D) → ℕ → ℕ
sum_all form count [] sum = sum
sum_all form count (slot ∷ slots) sum = sum_all form count slots (sum_with form count slot.1 sum)

-- ---- what is counted of the slots of a crew

-- what is counted of each slot, together
abbrev pub sum_of : {A D : Type 0} → (Slot A D → ℕ) → List (ℕ × Slot A D) → ℕ
sum_of count [] = 0
sum_of count (slot ∷ slots) = count slot.1 + sum_of count slots

-- Whatever is counted of slots, and nothing of a vacant one: together it changed by as much as it did in the slot of this number.
abbrev pub CountsAt : {A D : Type 0} → ℕ → BTreeMap ℕ (Slot A D) → BTreeMap ℕ (Slot A D) → Type 0
CountsAt {A = A} {D = D} number old new =
    (count : Slot A D → ℕ) → count Vacant ≡ 0 → sum_of count new.entries + count (slot_at old number) ≡ sum_of count old.entries + count (slot_at new number)
