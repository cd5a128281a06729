-- The directory under which each node is cached, as a finite map, and the ways up by it.
use Rattle.std.specs.Prelude.{ℕ, zero, suc, Bool, false, ◌||◌, List, [], ◌∷◌, Option, Some, None}
use Rattle.std.specs.Option.{option_map_or}
use Rattle.std.specs.FinMap as map
use Rattle.std.specs.FinMap.{FinMap}
use Rattle.coda_fid.specs.declared.fid.Fid.{Fid}
use Rattle.coda_fid.specs.Fid.{fid_cmp, same_fid}
use Rattle.coda_cache.specs.declared.hold.Hold.{Hold}
use Rattle.coda_cache.specs.State.{Holds}

-- the directory of each node that has one
abbrev pub Parents : Type 0
Parents = FinMap fid_cmp Fid

-- the parents with that of a node, or without any for it
abbrev pub put_under : Parents → Fid → Option Fid → Parents
put_under parents f None = map.remove parents f
put_under parents f (Some dir) = map.insert parents f dir

-- the parents in a list of holds
abbrev pub parents_among : List (Fid × Hold) → Parents
parents_among [] = map.empty
parents_among (e ∷ held) = put_under (parents_among held) e.0 e.1.parent

-- the directory under which each node is held that has one; no other node has an entry
unfoldable pub parents_of : Holds → Parents
parents_of holds = parents_among (map.entries holds)

-- whether g is met on the way up from f, within so many steps
abbrev pub below_within : Parents → ℕ → Fid → Fid → Bool
below_within parents zero f g = same_fid f g
below_within parents (suc steps) f g = same_fid f g || option_map_or (λ p. below_within parents steps p g) (map.get parents f) false
