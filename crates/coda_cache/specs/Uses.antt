-- In which order objects were used.
use Rattle.std.specs.Prelude.{◌≡◌, ◌^◌, ◌-◌, not, List, [], ◌∷◌, ◌++◌, reverse}
use Rattle.std.specs.List.{filter}
use Rattle.std.specs.Map.{keys_of}
use Rattle.coda_fid.specs.declared.fid.Fid.{Fid}
use Rattle.coda_fid.specs.Fid.{same_fid}
use Rattle.lru.specs.LruCache.{LruCache}

-- the fids but f
abbrev pub except : List Fid → Fid → List Fid
except fids f = filter (λ g. not (same_fid g f)) fids

-- the fids with f as the one used last
abbrev pub latest : List Fid → Fid → List Fid
latest fids f = except fids f ++ f ∷ []

-- the keys of entries that stand with the most recently used first, the other way round
abbrev pub in_order : List (Fid × Unit {0}) → List Fid
in_order entries = reverse (keys_of entries)

-- nothing is pushed out
abbrev pub IsUnbounded : LruCache Fid (Unit {0}) → Type 0
IsUnbounded used = used.cap ≡ 2 ^ 64 - 1
