-- A client's operation on its cache is done in two parts: what wants memory before it is logged, and the rest behind that. Where it can't be
-- logged, the first part is undone.
use Rattle.std.specs.Prelude.{◌≡◌, ◌<◌, ◌^◌, ℕ, Bool, ◌&&◌, cond, [], ◌∷◌, Some, None}
use Rattle.std.specs.FinMap as map
use Rattle.std.specs.Ordering.{is_eq}
use Rattle.coda_fid.specs.Fid.{same_fid}
use Rattle.coda_fid.specs.Name.{name_cmp}
use Rattle.coda_fid.specs.declared.fid.Fid.{Fid}
use Rattle.coda_fid.specs.declared.op.Record.{Record}
use Rattle.coda_tree.specs.Bindings.{Name}
use Rattle.coda_tree.specs.Blocks.{blocks_of}
use Rattle.coda_tree.specs.declared.node.Node.{Node}
use Rattle.coda_tree.specs.declared.node.NodeKind.TheVariants.{File}
use Rattle.coda_tree.specs.Volume.{Nodes, IsDirAt, child, changed, bound, unbound, moved, written, content_patch, attrs_patch}
use Rattle.coda_cache.specs.State.{CacheState}
use Rattle.coda_cache.specs.Steps.{put_in, without, removed, dirtied, moved_under, mutated}
use Rattle.coda_cache.specs.declared.begun.Begun.{Begun}
use Rattle.coda_cache.specs.declared.begun.Begun.TheVariants.{Made, Content, Attributes, Leaving, Moving, Replacing}

-- the cache with other nodes, and all else as it is
abbrev pub with_nodes : CacheState → Nodes → CacheState
with_nodes c m = record c { nodes = m }

-- whether two places in directories are one
abbrev pub is_same_place : Fid → Name → Fid → Name → Bool
is_same_place from_dir from to_dir to = same_fid from_dir to_dir && is_eq (name_cmp from to)

-- the nodes without the old name of a node that moved, unless it is the new one
abbrev pub left_behind : Nodes → Fid → Name → Fid → Name → Nodes
left_behind m from_dir from to_dir to = cond (is_same_place from_dir from to_dir to) m (unbound m from_dir from)

-- the cache in which a node was put that isn't dirty yet, and bound in its directory
abbrev pub created : CacheState → Fid → Name → Fid → Node → CacheState
created c dir name fid node = with_nodes (put_in c fid (Some dir) node None) (bound (map.insert c.nodes fid node) dir name fid)

-- the cache once the rest is done
abbrev pub finished : CacheState → Begun → CacheState
finished c (Made dir name fid) = dirtied c (dir ∷ fid ∷ [])
finished c (Content fid content mtime sid) = dirtied (with_nodes c (changed c.nodes fid (written (content_patch content mtime) sid))) (fid ∷ [])
finished c (Attributes fid attrs sid) = dirtied (with_nodes c (changed c.nodes fid (written (attrs_patch attrs) sid))) (fid ∷ [])
finished c (Leaving dir name fid) = dirtied (removed (with_nodes c (unbound c.nodes dir name)) fid) (dir ∷ fid ∷ [])
finished c (Moving from_dir from to_dir to fid) = dirtied (moved_under (Some (fid, to_dir)) (with_nodes c (left_behind c.nodes from_dir from to_dir to))) (from_dir ∷ to_dir ∷ fid ∷ [])
finished c (Replacing over from_dir from to_dir to fid) = dirtied (moved_under (Some (fid, to_dir)) (removed (with_nodes c (moved c.nodes from_dir from to_dir to fid)) over)) (from_dir ∷ to_dir ∷ fid ∷ over ∷ [])

-- the cache once the first part is undone
abbrev pub undone : CacheState → Begun → CacheState
undone c (Made dir name fid) = without (with_nodes c (unbound c.nodes dir name)) fid
undone c (Content fid content mtime sid) = c
undone c (Attributes fid attrs sid) = c
undone c (Leaving dir name fid) = c
undone c (Moving from_dir from to_dir to fid) = with_nodes c (unbound c.nodes to_dir to)
undone c (Replacing over from_dir from to_dir to fid) = c

-- what the rest, and what undoing, relies on
abbrev pub MayEnd : CacheState → Begun → Type 0
MayEnd c (Made dir name fid) = IsDirAt c.nodes dir
MayEnd c (Content fid content mtime sid) = blocks_of (File content) < 2 ^ 32
MayEnd c (Attributes fid attrs sid) = Unit {0}
MayEnd c (Leaving dir name fid) = IsDirAt c.nodes dir
MayEnd c (Moving from_dir from to_dir to fid) = IsDirAt c.nodes from_dir × IsDirAt c.nodes to_dir
MayEnd c (Replacing over from_dir from to_dir to fid) = IsDirAt c.nodes from_dir × IsDirAt c.nodes to_dir × (child c.nodes to_dir to ≡ Some over)

-- A client's operation has begun: its rest makes of the cache what the operation makes of it, and undoing it leaves the cache as it was.
pub record HasBegun (old new : CacheState) (client : ℕ) (rec : Record) (begun : Begun) : Type 0 where
  pub may : MayEnd new begun
  pub finishes : finished new begun ≡ mutated old client rec
  pub undoes : undone new begun ≡ old
