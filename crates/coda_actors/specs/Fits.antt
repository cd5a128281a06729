-- How a slot and the disks of a bay stand for a plain actor.
use Rattle.std.specs.Prelude.{◌≡◌, ◌≢◌, ◌⊎◌, ℕ, Bool, true, false, List, [], Option, Some, None, IfSome}
use Rattle.coda_disk.specs.Told.{Told}
use Rattle.coda_journal.specs.Header.{IsHeader}
use Rattle.coda_journal.specs.Image.{ReadsAs}
use Rattle.coda_journal.specs.declared.header.Header.{Header}
use Rattle.coda_actors.specs.Form.{Form, payloads_of, IsAsked}
use Rattle.coda_actors.specs.Plain.{PlainDisk, PlainActor, Unmade, Down, Up, Asks, MayHave}
use Rattle.coda_actors.specs.declared.slot.Slot.{Slot}
use Rattle.coda_actors.specs.declared.slot.Slot.TheVariants.{Vacant, Spare, Stopped, Started}

-- A disk that was given no header holds nothing. Else the header is one that such an actor may ask for, the entries are a history under it, and the
-- one whose append failed may follow them.
abbrev pub IsLawful : {A D : Type 0} → (form : Form A D) → Option Header → List form.Entry → Option form.Entry → Type 0
IsLawful form None history failed = (history ≡ []) × (failed ≡ None)
IsLawful form (Some header) history failed = IsAsked form header × form.IsHistory header history × IfSome failed (form.MayFollow header history)

-- Each image that a crash now may leave of the disk is one that it may have where it stands for this.
pub record StandsFor {A D : Type 0} (form : Form A D) (told : Told) (disk : PlainDisk form.Entry) : Type 0 where
  pub honest : told.honest
  pub lawful : IsLawful form disk.header disk.history disk.failed
  pub each : (image : List ℕ) → told.may_leave image → MayHave form disk.header disk.history disk.failed image

-- what an image that a crash now may leave reads as, the image of the last crash reads as
abbrev pub Echoes : {A D : Type 0} → (form : Form A D) → Header → Told → Option (List ℕ) → Type 0
Echoes form header told None = Unit {0}
Echoes form header told (Some left) =
    (image : List ℕ) (history : List form.Entry) → told.may_leave image → ReadsAs header (payloads_of form history) image → ReadsAs header (payloads_of form history) left

-- No line made the actor, and its disk, wherever it is, stands for it.
pub record FitsUnmade {A D : Type 0} (form : Form A D) (told : Told) (plain : PlainActor form.Entry) : Type 0 where
  pub life : plain.life ≡ Unmade
  pub left : plain.left ≡ None
  pub stands : StandsFor form told plain.disk

-- The actor is down, and its disk stands for it.
pub record FitsDown {A D : Type 0} (form : Form A D) (told : Told) (header : Header) (plain : PlainActor form.Entry) : Type 0 where
  pub life : plain.life ≡ Down header
  pub asked : IsAsked form header
  pub echoes : Echoes form header told plain.left
  pub stands : StandsFor form told plain.disk

-- The actor is up: its disk has the header that it asks for, and no append failed.
pub record FitsUp {A D : Type 0} (form : Form A D) (header : Header) (actor : A) (plain : PlainActor form.Entry) : Type 0 where
  pub life : plain.life ≡ Up header
  pub asked : IsAsked form header
  pub given : plain.disk.header ≡ Some header
  pub failed : plain.disk.failed ≡ None
  pub left : plain.left ≡ None
  pub up : form.IsUp header actor plain.disk.history

-- The disk of an actor that was made, up or down: the actor asks for this header, and the disk stands for it.
pub record Stays {A D : Type 0} (form : Form A D) (told : Told) (header : Header) (plain : PlainActor form.Entry) : Type 0 where
  pub asks : Asks plain.life header
  pub asked : IsAsked form header
  pub echoes : Echoes form header told plain.left
  pub stands : StandsFor form told plain.disk

-- The slot has the disk, and stands for the plain actor. An actor that was mounted is up, or a call of its disk failed since.
abbrev pub FitsHeld : {A D : Type 0} → (form : Form A D) → (D → Told) → Slot A D → PlainActor form.Entry → Type 0
FitsHeld form told Vacant plain = ⊥
FitsHeld form told (Spare disk) plain = FitsUnmade form (told disk) plain
FitsHeld form told (Stopped header disk) plain = FitsDown form (told disk) header plain
FitsHeld form told (Started header actor) plain = FitsUp form header actor plain ⊎ ((form.is_down actor ≡ true) × FitsDown form (told (form.disk actor)) header plain)

-- The slot, whether the number of its disk is out, and what the disk of that number tells while the bay has it, stand for the plain actor.
abbrev pub Fits : {A D : Type 0} → (form : Form A D) → (D → Told) → Bool → Told → Slot A D → PlainActor form.Entry → Type 0
Fits form told out has Vacant plain = (out ≡ false) × FitsUnmade form has plain
Fits form told out has slot plain = (out ≡ true) × FitsHeld form told slot plain

-- an actor of this kind may ask for the header, as the code has it
abbrev pub IsOwn : {A D : Type 0} → Form A D → Header → Type 0
IsOwn form header = IsHeader header × (header.kind ≡ form.owner)

-- an actor that was made asks for a header of its kind
abbrev pub AsksOwn : {A D : Type 0} → Form A D → Slot A D → Type 0
AsksOwn form Vacant = Unit {0}
AsksOwn form (Spare disk) = Unit {0}
AsksOwn form (Stopped header disk) = IsOwn form header
AsksOwn form (Started header actor) = IsOwn form header

-- the number of the disk is out exactly where the slot has it
abbrev pub OutFits : {A D : Type 0} → Bool → Slot A D → Type 0
OutFits out Vacant = out ≡ false
OutFits out slot = out ≡ true

-- each other number is out where it was
abbrev pub Others : ℕ → (ℕ → Bool) → (ℕ → Bool) → Type 0
Others number old new = (k : ℕ) → k ≢ number → new k ≡ old k
