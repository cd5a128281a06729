-- What the first 64 bytes of an image say to the one who asks for a header.
use Rattle.std.specs.Prelude.{◌≡◌, ◌≢◌, ℕ, ◌<◌, List, length, get_or, take}
use Rattle.coda_journal.specs.Image.{IsMade, IsUnmade, HasHeader, start_of, OtherHeader}
use Rattle.coda_journal.specs.declared.header.Header.{Header}
use Rattle.coda_journal.specs.declared.heading.Heading.{Heading}
use Rattle.coda_journal.specs.declared.heading.Heading.TheVariants.{Unmade, Other, Area}

-- the first place where they differ
pub record DiffersFirst (found asked : List ℕ) (place : ℕ) : Type 0 where
  pub inside : place < length found
  pub other : get_or found place 0 ≢ get_or asked place 0
  pub before : take place found ≡ take place asked

abbrev pub IsHeading : Header → List ℕ → Heading → Type 0
IsHeading header image Unmade = IsUnmade image
IsHeading header image (Other at) = OtherHeader header image at
IsHeading header image (Area start) = IsMade image × HasHeader header image × (start ≡ start_of header image)
