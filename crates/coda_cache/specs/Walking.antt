-- How the nodes of a walk are put: those that aren't cached begin first, and can be undone.
use Rattle.std.specs.Prelude.{◌≡◌, ℕ, ◌<◌, ◌^◌, true, false, if◌then◌else◌, List, [], ◌∷◌, Option, None}
use Rattle.coda_fid.specs.declared.fid.Fid.{Fid}
use Rattle.coda_tree.specs.declared.node.Node.{Node}
use Rattle.coda_tree.specs.declared.node.NodeKind.TheVariants.{Link}
use Rattle.coda_tree.specs.Blocks.{blocks_of}
use Rattle.coda_cache.specs.State.{CacheState, is_cached}
use Rattle.coda_cache.specs.Steps.{put_in, without}

-- what stands for a node until it is put
abbrev pub blank : Node
blank = record { kind = Link []; mode = 0; owner = 0; mtime = 0; sid = record { client = 0; number = 0 }; marked = false }

-- the cache in which a node is cached, if only as a blank one
abbrev pub begun : CacheState → Fid → Option Fid → CacheState
begun c f parent = if is_cached c f then c else put_in c f parent blank None

-- the same of nodes in turn
abbrev pub begun_all : CacheState → List (Fid × Option Fid × Node × ℕ) → CacheState
begun_all c [] = c
begun_all c (p ∷ puts) = begun_all (begun c p.0 p.1) puts

-- the cache without these nodes, the last one taken out first
abbrev pub undone : CacheState → List Fid → CacheState
undone c [] = c
undone c (f ∷ fids) = without (undone c fids) f

-- the nodes are cached
abbrev pub AreCached : CacheState → List (Fid × Option Fid × Node × ℕ) → Type 0
AreCached c [] = Unit {0}
AreCached c (p ∷ puts) = (is_cached c p.0 ≡ true) × AreCached c puts

-- the nodes are small enough to be counted
abbrev pub AreCounted : List (Fid × Option Fid × Node × ℕ) → Type 0
AreCounted [] = Unit {0}
AreCounted (p ∷ puts) = (blocks_of p.2.kind < 2 ^ 32) × AreCounted puts
