-- Which objects an entry of a replica's history changes: those whose node differs before and after the whole entry,
-- one that comes or goes included.
use Rattle.std.specs.Prelude.{Bool, true, false, not, ◌&&◌, ◌==◌, List, [], ◌∷◌, ◌++◌, Option, Some, None}
use Rattle.std.specs.FinMap as map
use Rattle.std.specs.List.{list_any}
use Rattle.std.specs.Ordering.{eq_by_cmp}
use Rattle.coda_fid.specs.Fid.{same_fid, same_sid}
use Rattle.coda_fid.specs.Name.{name_cmp}
use Rattle.coda_fid.specs.declared.fid.Fid.{Fid}
use Rattle.coda_tree.specs.Bindings.{Name, Bindings}
use Rattle.coda_tree.specs.declared.node.Node.{Node}
use Rattle.coda_tree.specs.declared.node.NodeKind.{NodeKind}
use Rattle.coda_tree.specs.declared.node.NodeKind.TheVariants.{File, Link, Dir}
use Rattle.coda_plain.specs.Decisions.{ReplicaEntry}
use Rattle.coda_coherence.specs.Cell.{node_at, TellsExactly}

-- whether two names are bound to the same, or both unbound
abbrev pub same_bound : Option Fid → Option Fid → Bool
same_bound None None = true
same_bound (Some a) (Some b) = same_fid a b
same_bound None (Some b) = false
same_bound (Some a) None = false

-- whether two directories bind one of the names otherwise
abbrev pub differ_at : Bindings → Bindings → List Name → Bool
differ_at a b names = list_any (λ n. not (same_bound (map.get a n) (map.get b n))) names

-- whether two directories bind the same
abbrev pub same_bindings : Bindings → Bindings → Bool
same_bindings a b = not (differ_at a b (map.keys a)) && not (differ_at a b (map.keys b))

-- whether two nodes are of one kind and hold the same
abbrev pub same_kind : NodeKind → NodeKind → Bool
same_kind (File a) (File b) = eq_by_cmp name_cmp a b
same_kind (Link a) (Link b) = eq_by_cmp name_cmp a b
same_kind (Dir a) (Dir b) = same_bindings a b
same_kind (File a) (Link b) = false
same_kind (File a) (Dir b) = false
same_kind (Link a) (File b) = false
same_kind (Link a) (Dir b) = false
same_kind (Dir a) (File b) = false
same_kind (Dir a) (Link b) = false

-- whether two marks are one
abbrev pub same_flag : Bool → Bool → Bool
same_flag true b = b
same_flag false b = not b

-- whether two nodes are the same in all parts
abbrev pub same_node : Node → Node → Bool
same_node a b =
    same_kind a.kind b.kind && ((a.mode == b.mode) && ((a.owner == b.owner)
    && ((a.mtime == b.mtime) && (same_sid a.sid b.sid && same_flag a.marked b.marked))))

-- whether the same node is there twice, or none
abbrev pub same_there : Option Node → Option Node → Bool
same_there None None = true
same_there (Some a) (Some b) = same_node a b
same_there None (Some b) = false
same_there (Some a) None = false

-- whether the entry behind this history changes the object: its node differs before and after the whole entry
unfoldable pub changes : List ReplicaEntry → ReplicaEntry → Fid → Bool
changes history e fid = not (same_there (node_at (history ++ e ∷ []) fid) (node_at history fid))

-- this is exact
abbrev pub ChangesTell : Type 0
ChangesTell = TellsExactly changes
