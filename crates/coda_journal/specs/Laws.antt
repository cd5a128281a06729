-- Laws of images.
use Rattle.std.specs.Prelude.{◌≡◌, ℕ, ◌^◌, ◌<◌, List, [], ◌∷◌, ◌++◌, take, drop, get_or, replicate}
use Rattle.std.specs.Int.{w32, from_be_bytes}
use Rattle.coda_journal.specs.Lengths.{IsBytes}
use Rattle.coda_journal.specs.Header.{IsHeader, marks}
use Rattle.coda_journal.specs.Image.{FoundOnce, Reads, ReadsAs, IsForeign}
use Rattle.coda_journal.specs.declared.header.Header.{Header}
use Rattle.coda_journal.specs.declared.header.Kind.{Kind}
use Rattle.coda_journal.specs.declared.header.Kind.TheVariants.{Client, Replica}

abbrev pub EachImageIsFoundOnce : Type 0
EachImageIsFoundOnce = (header : Header) (image : List ℕ) → IsHeader header → IsBytes image → FoundOnce header image

abbrev pub ReadingsAreNotForeign : Type 0
ReadingsAreNotForeign = (header : Header) (image : List ℕ) (payloads others : List (List ℕ)) → IsHeader header → ReadsAs header payloads image
    → ((at : ℕ) → ¬ IsForeign header image at) × (ReadsAs header others image → payloads ≡ others)

-- a disk that is made anew reads as no entries
abbrev pub NewDisksAreEmpty : Type 0
NewDisksAreEmpty = (header : Header) → IsHeader header → Reads header (1 ∷ 0 ∷ marks header ++ 0 ∷ []) []

-- the byte for a client's disk, and for a replica's
abbrev pub IsWhose : Kind → ℕ → Type 0
IsWhose Client byte = byte ≡ 1
IsWhose Replica byte = byte ≡ 2

-- The first 64 bytes of a disk say this header: each field stands at its place, and the rest is zero.
pub record Says (bytes : List ℕ) (header : Header) : Type 0 where
  pub opened : take 8 (drop 2 bytes) ≡ 67 ∷ 79 ∷ 68 ∷ 65 ∷ 74 ∷ 82 ∷ 78 ∷ 76 ∷ []
  pub version : get_or bytes 10 0 ≡ 1
  pub whose : IsWhose header.kind (get_or bytes 11 0)
  pub number : from_be_bytes w32 (take 4 (drop 12 bytes)) ≡ header.number
  pub server : get_or bytes 16 0 ≡ header.server
  pub group : get_or bytes 17 0 ≡ header.group
  pub between : take 2 (drop 18 bytes) ≡ replicate 2 0
  pub area : from_be_bytes w32 (take 4 (drop 20 bytes)) ≡ header.area
  pub cache : from_be_bytes w32 (take 4 (drop 24 bytes)) ≡ header.cache
  pub behind : take 36 (drop 28 bytes) ≡ replicate 36 0

-- each number has 32 bits
pub record HasWords (header : Header) : Type 0 where
  pub number : header.number < 2 ^ 32
  pub area : header.area < 2 ^ 32
  pub cache : header.cache < 2 ^ 32

-- whatever the gate and the selector are
abbrev pub HeadersSayTheirFields : Type 0
HeadersSayTheirFields = (header : Header) (gate selector : ℕ) → HasWords header → Says (gate ∷ selector ∷ marks header) header

-- whose disk it is, how large an area is and how large the cache is can be read from its header
abbrev pub HeadersAreToldApart : Type 0
HeadersAreToldApart = (a b : Header) → HasWords a → HasWords b → marks a ≡ marks b → a ≡ b
