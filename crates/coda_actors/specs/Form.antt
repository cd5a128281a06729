-- What differs between clients and replicas.
use Rattle.std.specs.Prelude.{◌≡◌, ◌⊎◌, ℕ, Bool, List, map, length}
use Rattle.coda_disk.specs.Told.{Told}
use Rattle.coda_journal.specs.Header.{IsHeader}
use Rattle.coda_journal.specs.Image.{IsMade, HasHeader, ReadsAs, IsForeign}
use Rattle.coda_journal.specs.Laws.{HasWords}
use Rattle.coda_journal.specs.declared.header.Header.{Header}
use Rattle.coda_journal.specs.declared.header.Kind.{Kind}

-- A kind of actors that stand on disks of one type: whose headers they ask for, what one of them writes at once and as which payload, what may
-- follow what, and what is known of one.
pub record Form (A D : Type 0) : Type 1 where
  pub owner : Kind
  pub Entry : Type 0
  pub payload_of : Entry → List ℕ
  pub IsHistory : Header → List Entry → Type 0
  pub MayFollow : Header → List Entry → Entry → Type 0
  -- the disk that it has
  pub disk : A → D
  -- a call of its disk failed since it was mounted
  pub is_down : A → Bool
  -- it is up under this header with this history
  pub IsUp : Header → A → List Entry → Type 0

abbrev pub payloads_of : {A D : Type 0} → (form : Form A D) → List form.Entry → List (List ℕ)
payloads_of form history = map form.payload_of history

-- an actor of this kind may ask for the header
pub record IsAsked {A D : Type 0} (form : Form A D) (header : Header) : Type 0 where
  pub whole : IsHeader header
  pub words : HasWords header
  pub owner : header.kind ≡ form.owner

-- the image reads as this history
abbrev pub ReadsAsHistory : {A D : Type 0} → (form : Form A D) → Header → List ℕ → List form.Entry → Type 0
ReadsAsHistory form header image history = form.IsHistory header history × ReadsAs header (payloads_of form history) image

-- each image that a crash now may leave reads as some history
abbrev pub IsOwnDisk : {A D : Type 0} → Form A D → Header → Told → Type 0
IsOwnDisk form header told = (image : List ℕ) → told.may_leave image → (history : List form.Entry) × ReadsAsHistory form header image history

-- The actor is up with the history that the disk read as, and so many entries.
pub record Mounted {A D : Type 0} (form : Form A D) (header : Header) (old : Told) (actor : A) (count : ℕ) : Type 0 where
  pub history : List form.Entry
  pub up : form.IsUp header actor history
  pub was : ReadsAs header (payloads_of form history) old.seen
  pub counts : count ≡ length history

-- Foreign: each image is one that a crash might have left before, and the disk was foreign for a journal, or a crash might have left an image
-- that has this header.
abbrev pub WhyForeign : Header → Told → Told → ℕ → Type 0
WhyForeign header old new at =
    ((image : List ℕ) → new.may_leave image → old.may_leave image)
    × (IsForeign header old.seen at ⊎ ((image : List ℕ) × old.may_leave image × IsMade image × HasHeader header image))
