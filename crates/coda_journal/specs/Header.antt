-- The bytes of a header.
use Rattle.std.specs.Prelude.{◌≡◌, ℕ, ◌*◌, ◌^◌, ◌<◌, ◌≤◌, List, [], ◌∷◌, ◌++◌, replicate}
use Rattle.std.specs.Int.{w32, to_be_bytes}
use Rattle.coda_journal.specs.declared.header.Header.{Header}
use Rattle.coda_journal.specs.declared.header.Kind.{Kind}
use Rattle.coda_journal.specs.declared.header.Kind.TheVariants.{Client, Replica}

abbrev pub kind_code : Kind → ℕ
kind_code Client = 1
kind_code Replica = 2

-- CODAJRNL
abbrev pub opening : List ℕ
opening = 67 ∷ 79 ∷ 68 ∷ 65 ∷ 74 ∷ 82 ∷ 78 ∷ 76 ∷ []

-- bytes 2 to 63: the opening, version 1, whose disk it is, the MiB of an area, the blocks of the cache
unfoldable pub marks : Header → List ℕ
marks h = opening ++ (1 ∷ kind_code h.kind ∷ to_be_bytes w32 h.number) ++ (h.server ∷ h.group ∷ 0 ∷ 0 ∷ to_be_bytes w32 h.area) ++ to_be_bytes w32 h.cache ++ replicate 36 0

-- how many bytes an area has
abbrev pub area_bytes : Header → ℕ
area_bytes h = h.area * 2 ^ 20

-- the header of a client's disk, or of a replica's
abbrev pub IsOwners : Header → Kind → Type 0
IsOwners h Client = (1 ≤ h.number) × (h.number < 256) × (h.server ≡ 0) × (h.group ≡ 0) × (1 ≤ h.cache) × (h.cache ≤ 32768)
IsOwners h Replica = (1 ≤ h.number) × (1 ≤ h.server) × (h.server ≤ 8) × (h.cache ≡ 0)

pub record IsHeader (h : Header) : Type 0 where
  pub owner : IsOwners h h.kind
  pub smallest : 1 ≤ h.area
  pub greatest : h.area ≤ 64
