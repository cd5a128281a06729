-- What always holds of a cache: each node has a hold, its fid stands in the order of use, and nothing else has.
use Rattle.std.specs.Prelude.{◌≡◌, List}
use Rattle.std.specs.FinMap as map
use Rattle.coda_fid.specs.declared.fid.Fid.{Fid}
use Rattle.coda_tree.specs.Volume.{Nodes, has}
use Rattle.coda_walk.specs.Going.{is_listed}
use Rattle.coda_cache.specs.State.{CacheState, Holds, AreSmall}
use Rattle.coda_cache.specs.declared.contents.Contents.TheInside.{Inside}

pub record Agree (nodes : Nodes) (holds : Holds) (recency : List Fid) : Type 0 where
  pub held : (f : Fid) → map.contains_key holds f ≡ has nodes f
  pub used : (f : Fid) → is_listed recency f ≡ has nodes f

-- what contracts see
abbrev pub cache_of : Inside → CacheState
cache_of a = record { size = a.size; nodes = a.nodes; holds = a.holds; recency = a.recency; priorities = a.priorities }

-- the parts of a cache agree, and its nodes are small enough to be counted
pub record AreWhole (nodes : Nodes) (holds : Holds) (recency : List Fid) : Type 0 where
  pub agree : Agree nodes holds recency
  pub small : AreSmall nodes

-- so it is with those of a cache
abbrev pub AreOne : Inside → Type 0
AreOne a = AreWhole a.nodes a.holds a.recency
