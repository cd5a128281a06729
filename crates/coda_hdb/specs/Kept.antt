-- How the entries are kept: under their volumes and the texts of their paths.
use Rattle.std.specs.Prelude.{◌≡◌, ◌≤◌, ℕ, List, length}
use Rattle.std.specs.List.{AllByRecursion}
use Rattle.std.specs.Global.{Vec}
use Rattle.std.specs.Map.{values_of}
use Rattle.coda_fid.specs.Path.{path_text}
use Rattle.coda_hdb.specs.declared.entry.HdbEntry.{HdbEntry}
use Rattle.coda_hdb.specs.Database.{AreDistinct}

-- a volume, and the text of a path in it
abbrev pub Place : Type 0
Place = ℕ × Vec ℕ

-- the place of a path in a volume
abbrev pub IsPlaceOf : Place → ℕ → List (List ℕ) → Type 0
IsPlaceOf place volume path = (place.0 ≡ volume) × (place.1.items ≡ path_text path)

-- each entry is kept under its place
abbrev pub ArePlaced : List (Place × HdbEntry) → Type 0
ArePlaced pairs = AllByRecursion (λ (p : Place × HdbEntry). IsPlaceOf p.0 p.1.volume p.1.path) pairs

-- each entry is kept under its place, no two under one, and there are at most 1,024
pub record AreKept (pairs : List (Place × HdbEntry)) : Type 0 where
  pub placed : ArePlaced pairs
  pub distinct : AreDistinct (values_of pairs)
  pub few : length (values_of pairs) ≤ 1024
