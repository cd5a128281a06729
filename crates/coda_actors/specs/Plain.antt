-- The plain actor: what its disk stands for, and what each call does to it.
use Rattle.std.specs.Prelude.{◌≡◌, ◌⊎◌, ℕ, ◌+◌, List, [], ◌∷◌, ◌++◌, length, Option, Some, None, IfSome, option_map}
use Rattle.coda_journal.specs.Header.{marks}
use Rattle.coda_journal.specs.Heading.{DiffersFirst}
use Rattle.coda_journal.specs.Image.{IsUnmade, ReadsAs}
use Rattle.coda_journal.specs.declared.header.Header.{Header}
use Rattle.coda_journal.specs.Open.{MayBe}
use Rattle.coda_actors.specs.Form.{Form, payloads_of}
use Rattle.coda_actors.specs.declared.slot.Mounting.{Mounting}
use Rattle.coda_actors.specs.declared.slot.Mounting.TheVariants.{Entries, Foreign, DiskFault, Memory}

-- what a disk stands for: the header that it was last given, if any, the entries that were acknowledged, and the one whose append failed
pub record PlainDisk (Entry : Type 0) : Type 0 where
  pub header : Option Header
  pub history : List Entry
  pub failed : Option Entry

-- No line made it; or it is down or up, and asks for this header.
pub data Life : Type 0 where
  Unmade : Life
  Down : Header → Life
  Up : Header → Life

pub record PlainActor (Entry : Type 0) : Type 0 where
  pub disk : PlainDisk Entry
  pub life : Life
  -- the image that its last crash left, until a recovery
  pub left : Option (List ℕ)

-- ---- what the mounting of a disk does

-- The history is the one that was there, or that one with the entry whose append failed. The disk had this header before, or had no entries.
pub record Joins {Entry : Type 0} (header : Header) (old new : PlainDisk Entry) : Type 0 where
  pub history : (new.history ≡ old.history) ⊎ ((entry : Entry) × (old.failed ≡ Some entry) × (new.history ≡ old.history ++ entry ∷ []))
  pub failed : new.failed ≡ None
  pub given : new.header ≡ Some header
  pub was : (old.header ≡ Some header) ⊎ ((old.history ≡ []) × (new.history ≡ []))

-- The disk was left as it was; or it had no entries, and was given this header.
abbrev pub Tries : {Entry : Type 0} → Header → PlainDisk Entry → PlainDisk Entry → Type 0
Tries header old new = (new ≡ old) ⊎ ((old.history ≡ []) × (new ≡ record { header = Some header; history = []; failed = None }))

-- the disk has another header, which differs from this one first at this place of the disk, behind the gate and the selector
abbrev pub HasOther : Header → Option Header → ℕ → Type 0
HasOther header None at = ⊥
HasOther header (Some other) at = (place : ℕ) × (at ≡ 2 + place) × DiffersFirst (marks other) (marks header) place

-- a mounting under this header that ended so
abbrev pub Mounts : {Entry : Type 0} → Header → PlainDisk Entry → Mounting → PlainDisk Entry → Type 0
Mounts header old (Entries count) new = Joins header old new × (count ≡ length new.history)
Mounts header old (Foreign at) new = HasOther header old.header at × (new ≡ old)
Mounts header old DiskFault new = Tries header old new
Mounts header old Memory new = Tries header old new

-- what becomes of an actor whose making line ended so: where the disk was foreign, or memory was wanting, none was made
abbrev pub opened_as : Header → Mounting → Life
opened_as header (Entries count) = Up header
opened_as header (Foreign at) = Unmade
opened_as header DiskFault = Down header
opened_as header Memory = Unmade

-- what becomes of an actor whose recovery ended so
abbrev pub recovered_as : Header → Mounting → Life
recovered_as header (Entries count) = Up header
recovered_as header mounting = Down header

-- a recovery that succeeds ends the image of the crash before
abbrev pub left_after : Option (List ℕ) → Mounting → Option (List ℕ)
left_after left (Entries count) = None
left_after left mounting = left

-- where a recovery succeeds, the image that the last crash left reads as the history
abbrev pub IsReadFrom : {A D : Type 0} → (form : Form A D) → Header → Option (List ℕ) → List form.Entry → Mounting → Type 0
IsReadFrom form header left history (Entries count) = IfSome left (ReadsAs header (payloads_of form history))
IsReadFrom form header left history mounting = Unit {0}

-- ---- what a call does

-- what is done to an actor
pub data Deed (Entry : Type 0) : Type 0 where
  -- its making line mounts its disk under this header, which ends so
  Opens : Header → Mounting → Deed Entry
  -- a call adds this entry, and is acknowledged
  Adds : Entry → Deed Entry
  -- a call of the disk fails while this entry is added
  Fails : Entry → Deed Entry
  -- a crash leaves this image
  Crashes : List ℕ → Deed Entry
  Recovers : Mounting → Deed Entry
  Arms : Deed Entry
  -- the actor is given up, and its disk is kept as it is
  Leaves : Deed Entry

-- the header that an actor asks for which was made
abbrev pub Asks : Life → Header → Type 0
Asks life header = (life ≡ Down header) ⊎ (life ≡ Up header)

-- where the disk stands for this, each image that it may have is one of these: one that isn't made, before the disk was given a header; and else
-- one that reads as the history, or as the history with the entry whose append failed
abbrev pub MayHave : {A D : Type 0} → (form : Form A D) → Option Header → List form.Entry → Option form.Entry → List ℕ → Type 0
MayHave form None history failed image = IsUnmade image
MayHave form (Some header) history failed image = MayBe header (payloads_of form history) (option_map form.payload_of failed) image

-- what each deed makes of an actor
abbrev pub Step : {A D : Type 0} → (form : Form A D) → PlainActor form.Entry → Deed form.Entry → PlainActor form.Entry → Type 0
Step form old (Opens header mounting) new =
    (old.life ≡ Unmade) × Mounts header old.disk mounting new.disk × (new.life ≡ opened_as header mounting) × (new.left ≡ None)
Step form old (Adds entry) new = (header : Header) × (old.life ≡ Up header) × (new ≡ record old { disk = record { header = old.disk.header; history = old.disk.history ++ entry ∷ []; failed = old.disk.failed } })
Step form old (Fails entry) new =
    (header : Header) × (old.life ≡ Up header) × (new ≡ record old { disk = record { header = old.disk.header; history = old.disk.history; failed = Some entry }; life = Down header })
Step form old (Crashes image) new =
    (header : Header) × Asks old.life header × MayHave form old.disk.header old.disk.history old.disk.failed image × (new ≡ record { disk = old.disk; life = Down header; left = Some image })
Step form old (Recovers mounting) new =
    (header : Header) × Asks old.life header × Mounts header old.disk mounting new.disk × IsReadFrom form header old.left new.disk.history mounting
    × (new.life ≡ recovered_as header mounting) × (new.left ≡ left_after old.left mounting)
Step form old Arms new = (header : Header) × (old.life ≡ Up header) × (new ≡ old)
Step form old Leaves new = new ≡ record { disk = old.disk; life = Unmade; left = None }

-- deeds one after the other
abbrev pub Runs : {A D : Type 0} → (form : Form A D) → PlainActor form.Entry → List (Deed form.Entry) → PlainActor form.Entry → Type 0
Runs form old [] new = new ≡ old
Runs form old (deed ∷ deeds) new = (mid : PlainActor form.Entry) × Step form old deed mid × Runs form mid deeds new
