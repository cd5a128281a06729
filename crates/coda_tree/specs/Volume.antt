-- A volume as a finite map from fids to nodes, and the edits of such a map.
use Rattle.std.specs.Prelude.{◌≡◌, ◌≢◌, ℕ, zero, suc, Bool, false, ◌||◌, List, [], ◌∷◌, Option, Some, None, is_some, refl}
use Rattle.std.specs.List.{list_any, find}
use Rattle.std.specs.Option.{option_map_or}
use Rattle.std.specs.FinMap as map
use Rattle.std.specs.FinMap.{FinMap}
use Rattle.std.specs.Coded.{Coded, code_by, coded×, coded_ℕ}
use Rattle.coda_fid.specs.Fid.{fid_cmp, same_fid, root_of, coded_fid}
use Rattle.coda_fid.specs.declared.fid.Fid.{Fid}
use Rattle.coda_fid.specs.declared.fid.Sid.{Sid}
use Rattle.coda_fid.specs.declared.op.Attrs.{Attrs}
use Rattle.coda_tree.specs.declared.node.Node.{Node}
use Rattle.coda_tree.specs.declared.node.NodeKind.{NodeKind}
use Rattle.coda_tree.specs.declared.node.NodeKind.TheVariants.{File, Link, Dir}
use Rattle.coda_tree.specs.Bindings.{Name, Bindings}
use Rattle.coda_tree.specs.Tree.{Child, IsTree}

-- ---- what stands where

-- which node stands at which fid
abbrev pub Nodes : Type 0
Nodes = FinMap fid_cmp Node

-- the code of such a map, from that of a node
abbrev pub coded_nodes : Coded Node → Coded Nodes
coded_nodes node = map.code coded_fid node

-- what a node of this kind binds: nothing, unless it is a directory
abbrev pub bindings : NodeKind → Bindings
bindings (File content) = map.empty
bindings (Link target) = map.empty
bindings (Dir entries) = entries

-- what the node binds at a name, where there is a node
abbrev pub child_of : Option Node → Name → Option Fid
child_of None n = None
child_of (Some node) n = map.get (bindings node.kind) n

-- what the node at a fid binds at a name
abbrev pub child : Nodes → Child
child m d n = child_of (map.get m d) n

-- whether a node stands at a fid
abbrev pub has : Nodes → Fid → Bool
has m f = is_some (map.get m f)

-- a directory
abbrev pub IsDir : NodeKind → Type 0
IsDir (File content) = ⊥
IsDir (Link target) = ⊥
IsDir (Dir entries) = Unit {0}

-- there is a node, and it is a directory
abbrev pub IsDirNode : Option Node → Type 0
IsDirNode None = ⊥
IsDirNode (Some node) = IsDir node.kind

-- a directory stands at the fid
abbrev pub IsDirAt : Nodes → Fid → Type 0
IsDirAt m f = IsDirNode (map.get m f)

-- a node that binds nothing
abbrev pub IsLeaf : Node → Type 0
IsLeaf node = (n : Name) → map.get (bindings node.kind) n ≡ None

-- the nodes of a volume: a tree, and its root is a directory
pub record IsVolume (root : Fid) (m : Nodes) : Type 0 where
  pub tree : IsTree root (has m) (child m)
  pub top : IsDirAt m root

-- ---- going up

-- whether what is bound there, if anything, is f
abbrev pub is_at_fid : Option Fid → Fid → Bool
is_at_fid None f = false
is_at_fid (Some g) f = same_fid g f

-- whether the node, if there is one, binds f at some name
abbrev pub binds_fid : Option Node → Fid → Bool
binds_fid None f = false
binds_fid (Some node) f = list_any (λ n. is_at_fid (map.get (bindings node.kind) n) f) (map.keys (bindings node.kind))

-- the directory that binds f, the first in the order of fids
unfoldable pub parent_of : Nodes → Fid → Option Fid
parent_of m f = find (λ d. binds_fid (map.get m d) f) (map.keys m)

-- whether g is met on the way up from f, within so many steps
abbrev pub below_within : Nodes → ℕ → Fid → Fid → Bool
below_within m zero f g = same_fid f g
below_within m (suc steps) f g = same_fid f g || option_map_or (λ p. below_within m steps p g) (parent_of m f) false

-- whether f is g or stands below it: no way up has more steps than there are nodes
unfoldable pub is_below : Nodes → Fid → Fid → Bool
is_below m f g = below_within m (map.len m) f g

-- ---- edits

-- the node as another kind of node
abbrev pub with_kind : Node → NodeKind → Node
with_kind node kind = record node { kind = kind }

-- the node, which binds f at the name too
abbrev pub bind_in : Node → Name → Fid → Node
bind_in node name f = with_kind node (Dir (map.insert (bindings node.kind) name f))

-- the node, which binds nothing at the name
abbrev pub unbind_in : Node → Name → Node
unbind_in node name = with_kind node (Dir (map.remove (bindings node.kind) name))

-- the map with the changed node at d, where there was one, and else as it is
abbrev pub changed_at : Option Node → Nodes → Fid → (Node → Node) → Nodes
changed_at None m d change = m
changed_at (Some node) m d change = map.insert m d (change node)

-- the map with the node at a fid changed, where there is one
abbrev pub changed : Nodes → Fid → (Node → Node) → Nodes
changed m d change = changed_at (map.get m d) m d change

-- the map in which d binds f at the name too
abbrev pub bound : Nodes → Fid → Name → Fid → Nodes
bound m d name f = changed m d (λ node. bind_in node name f)

-- the map in which d binds nothing at the name
abbrev pub unbound : Nodes → Fid → Name → Nodes
unbound m d name = changed m d (λ node. unbind_in node name)

-- the new value where there is one, and else the old
abbrev pub set_or : {A : Type 0} → Option A → A → A
set_or (Some new) old = new
set_or None old = old

-- the parts of a node that a write sets
pub record Patch : Type 0 where
  pub content : Option (List ℕ)
  pub mode : Option ℕ
  pub owner : Option ℕ
  pub mtime : Option ℕ

-- the content and its time
abbrev pub content_patch : List ℕ → ℕ → Patch
content_patch content mtime = record { content = Some content; mode = None; owner = None; mtime = Some mtime }

-- the attributes that are to be set
abbrev pub attrs_patch : Attrs → Patch
attrs_patch attrs = record { content = None; mode = attrs.mode; owner = attrs.owner; mtime = attrs.mtime }

-- a file with the new content, where there is one; links and directories have none
abbrev pub with_content : Option (List ℕ) → NodeKind → NodeKind
with_content None kind = kind
with_content (Some new) (File content) = File new
with_content (Some new) (Link target) = Link target
with_content (Some new) (Dir entries) = Dir entries

-- the node with those parts set, and of that version
abbrev pub written : Patch → Sid → Node → Node
written patch sid node = record {
  kind = with_content patch.content node.kind;
  mode = set_or patch.mode node.mode;
  owner = set_or patch.owner node.owner;
  mtime = set_or patch.mtime node.mtime;
  sid = sid;
  marked = node.marked;
}

-- one edit at one fid
pub data Edit : Type 0 where
  -- the node stands at the fid
  Put : (f : Fid) (node : Node) → Edit
  -- the directory d binds f at the name too
  Bind : (d : Fid) (name : Name) (f : Fid) → Edit
  -- nothing stands at the fid
  TakeOut : (f : Fid) → Edit
  -- the directory d binds nothing at the name
  Unbind : (d : Fid) (name : Name) → Edit
  -- parts of the node at the fid are set, and it is of that version
  Write : (f : Fid) (patch : Patch) (sid : Sid) → Edit

-- the map after an edit
abbrev pub edited : Nodes → Edit → Nodes
edited m (Put f node) = map.insert m f node
edited m (Bind d name f) = bound m d name f
edited m (TakeOut f) = map.remove m f
edited m (Unbind d name) = unbound m d name
edited m (Write f patch sid) = changed m f (written patch sid)

-- the map after the edits in order
abbrev pub edited_all : Nodes → List Edit → Nodes
edited_all m [] = m
edited_all m (edit ∷ edits) = edited_all (edited m edit) edits

-- the edits that put a new node into a directory
abbrev pub additions : Fid → Name → Fid → Node → List Edit
additions d name f node = Bind d name f ∷ Put f node ∷ []

-- the node put at f, and f bound in d at the name
unfoldable pub added : Nodes → Fid → Name → Fid → Node → Nodes
added m d name f node = edited_all m (additions d name f node)

-- the edits that take a node out of a directory, and out of the map
abbrev pub removals : Fid → Name → Fid → List Edit
removals d name f = Unbind d name ∷ TakeOut f ∷ []

-- the name unbound in d, and the node at f taken out
unfoldable pub detached : Nodes → Fid → Name → Fid → Nodes
detached m d name f = edited_all m (removals d name f)

-- the edits that bind a node at a name of another directory, or at another name, in place of where it was
abbrev pub moves : Fid → Name → Fid → Name → Fid → List Edit
moves from name to new f = Unbind from name ∷ Bind to new f ∷ []

-- f unbound at its old name, and bound at the new one
unfoldable pub moved : Nodes → Fid → Name → Fid → Name → Fid → Nodes
moved m from name to new f = edited_all m (moves from name to new f)

-- the edits that move a node to the name of another, which is taken out
abbrev pub replacements : Fid → Fid → Name → Fid → Name → Fid → List Edit
replacements old from name to new f = TakeOut old ∷ moves from name to new f

-- old taken out, and f moved to its name
unfoldable pub replaced : Nodes → Fid → Fid → Name → Fid → Name → Fid → Nodes
replaced m old from name to new f = edited_all m (replacements old from name to new f)

-- the second node binds what the first does, and is a directory where the first is one
pub record BindsAsMuch (was : Node) (node : Node) : Type 0 where
  pub same : bindings was.kind ≡ bindings node.kind
  pub dir : IsDir was.kind → IsDir node.kind

-- what a move may rely on: the object is bound at the old name, the new directory is there and does not stand at or below the object, and the new name is free
pub record MayMove (m : Nodes) (from : Fid) (name : Name) (to : Fid) (new : Name) : Type 0 where
  pub fid : Fid
  pub was : child m from name ≡ Some fid
  pub to_dir : IsDirAt m to
  pub free : child m to new ≡ None
  pub apart : is_below m to fid ≡ false

-- what a move to a bound name may rely on: both objects are bound, they differ, and both bind nothing
pub record MayReplace (m : Nodes) (old from : Fid) (name : Name) (to : Fid) (new : Name) : Type 0 where
  pub fid : Fid
  pub was : child m from name ≡ Some fid
  pub had : child m to new ≡ Some old
  pub differ : old ≢ fid
  pub leaf : (n : Name) → child m fid n ≡ None
  pub old_leaf : (n : Name) → child m old n ≡ None

-- ---- whole volumes

-- what contracts see of a volume
pub record Tree : Type 0 where
  pub number : ℕ
  pub nodes : Nodes

-- the code of a volume, from that of a node
abbrev pub coded_tree : Coded Node → Coded Tree
coded_tree node = code_by (ℕ × Nodes) (coded× coded_ℕ (coded_nodes node)) (λ t. (t.number, t.nodes)) (λ p. record { number = p.0; nodes = p.1 }) (λ _. refl)

-- the root of a fresh volume: an empty directory of owner 0, rwxr-xr-x, that no operation has changed
abbrev pub fresh_root : Node
fresh_root = record { kind = Dir map.empty; mode = 493; owner = 0; mtime = 0; sid = record { client = 0; number = 0 }; marked = false }

-- a fresh volume: its root alone
abbrev pub fresh : ℕ → Tree
fresh number = record { number = number; nodes = map.insert map.empty (root_of number) fresh_root }
