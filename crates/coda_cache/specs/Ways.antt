-- The ways up in a cache, by the parents under which nodes are cached.
use Rattle.std.specs.Prelude.{ℕ, zero, suc, Bool, ◌&&◌, List, [], ◌∷◌, Option}
use Rattle.std.specs.Option.{option_map_or}
use Rattle.std.specs.List.{filter, list_any}
use Rattle.std.specs.FinMap as map
use Rattle.coda_fid.specs.declared.fid.Fid.{Fid}
use Rattle.coda_walk.specs.Going.{is_listed}
use Rattle.coda_cache.specs.State.{CacheState, parent_of, is_dirty}

-- f, its parent, and so on, within so many steps
abbrev pub way_within : CacheState → ℕ → Fid → List Fid
way_within c zero f = []
way_within c (suc steps) f = f ∷ option_map_or (λ p. way_within c steps p) (parent_of c f) []

-- f, its parent, and so on up to what has no parent: no way is longer than there are nodes
unfoldable pub way_up : CacheState → Fid → List Fid
way_up c f = way_within c (map.len c.holds) f

-- whether f is g, or cached below it
abbrev pub is_below : CacheState → Fid → Fid → Bool
is_below c f g = is_listed (way_up c f) g

-- the cached nodes that are f or below it
abbrev pub at_or_below : CacheState → Fid → List Fid
at_or_below c f = filter (λ g. is_below c g f) c.recency

-- whether a node is pinned: it is dirty, or above one that is
abbrev pub is_pinned : CacheState → Fid → Bool
is_pinned c f = list_any (λ d. is_dirty c d && is_below c d f) c.recency

-- the way up from what may be there, within so many steps
abbrev pub way_on : CacheState → ℕ → Option Fid → List Fid
way_on c steps at = option_map_or (λ f. way_within c steps f) at []
