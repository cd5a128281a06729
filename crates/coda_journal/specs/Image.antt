-- What an image of a disk reads as.
use Rattle.std.specs.Prelude.{◌≡◌, ◌≢◌, ◌⊎◌, ℕ, ◌+◌, ◌-◌, ◌*◌, ◌%◌, ◌<◌, ◌≤◌, List, [], length, get_or, take, drop}
use Rattle.std.specs.Int.{Width, w32}
use Rattle.coda_journal.specs.Entries.{Holds, IsBroken}
use Rattle.coda_journal.specs.Header.{marks, area_bytes}
use Rattle.coda_journal.specs.declared.header.Header.{Header}

-- 64 bytes or more, and the gate of the header is open
pub record IsMade (image : List ℕ) : Type 0 where
  pub size : 64 ≤ length image
  pub gate : get_or image 0 0 ≡ 1

abbrev pub IsUnmade : List ℕ → Type 0
IsUnmade image = (length image < 64) ⊎ (get_or image 0 0 ≢ 1)

abbrev pub HasHeader : Header → List ℕ → Type 0
HasHeader header image = take 62 (drop 2 image) ≡ marks header

-- where the area begins that the selector names: the first one where it is even, the second one where it is odd
abbrev pub start_of : Header → List ℕ → ℕ
start_of header image = 64 + get_or image 1 0 % 2 * area_bytes header

-- the bytes of that area, as far as the disk has them
abbrev pub area_of : Header → List ℕ → List ℕ
area_of header image = take (area_bytes header) (drop (start_of header image) image)

-- the width of a length in that area
abbrev pub width_of : List ℕ → Width
width_of image = w32

-- a disk that was made with this header and holds this list
pub record Reads (header : Header) (image : List ℕ) (payloads : List (List ℕ)) : Type 0 where
  pub made : IsMade image
  pub same : HasHeader header image
  pub entries : Holds (width_of image) (area_of header image) payloads

-- the list that an image stands for: a disk that isn't made holds the empty one
abbrev pub ReadsAs : Header → List (List ℕ) → List ℕ → Type 0
ReadsAs header payloads image = (IsUnmade image × (payloads ≡ [])) ⊎ Reads header image payloads

-- the first of bytes 2 to 63 that differs from the asked header
pub record OtherHeader (header : Header) (image : List ℕ) (at : ℕ) : Type 0 where
  pub made : IsMade image
  pub from : 2 ≤ at
  pub to : at < 64
  pub other : get_or image at 0 ≢ get_or (marks header) (at - 2) 0
  pub before : take (at - 2) (drop 2 image) ≡ take (at - 2) (marks header)

-- the header agrees, and the area that the selector names holds no list
pub record BrokenArea (header : Header) (image : List ℕ) (at : ℕ) : Type 0 where
  pub made : IsMade image
  pub same : HasHeader header image
  pub place : ℕ
  pub here : at ≡ start_of header image + place
  pub broken : IsBroken (width_of image) (area_of header image) place

abbrev pub IsForeign : Header → List ℕ → ℕ → Type 0
IsForeign header image at = OtherHeader header image at ⊎ BrokenArea header image at

-- All that an image can be to the one who asks for this header.
pub data Found : Type 0 where
  Unmade : Found
  Foreign : ℕ → Found
  Entries : List (List ℕ) → Found

abbrev pub IsFound : Header → List ℕ → Found → Type 0
IsFound header image Unmade = IsUnmade image
IsFound header image (Foreign at) = IsForeign header image at
IsFound header image (Entries payloads) = Reads header image payloads

-- one of them, and no other
pub record FoundOnce (header : Header) (image : List ℕ) : Type 0 where
  pub found : Found
  pub is : IsFound header image found
  pub only : (other : Found) → IsFound header image other → other ≡ found
