-- How the objects of a volume are gone through: turn by turn, with a stack of directories whose entries are left.
use Rattle.std.specs.Prelude.{ℕ, zero, suc, ◌-◌, ◌≤◌, List, [], ◌∷◌, ◌++◌, length, take, drop, Option, Some, None}
use Rattle.std.specs.List.{flat_map}
use Rattle.std.specs.FinMap as map
use Rattle.coda_fid.specs.Fid.{fid_text}
use Rattle.coda_fid.specs.declared.fid.Fid.{Fid}
use Rattle.coda_tree.specs.declared.node.Node.{Node}
use Rattle.coda_tree.specs.declared.node.NodeKind.{NodeKind}
use Rattle.coda_tree.specs.declared.node.NodeKind.TheVariants.{File, Link, Dir}
use Rattle.coda_tree.specs.Bindings.{Name}
use Rattle.coda_tree.specs.Volume.{Nodes}
use Rattle.coda_text.specs.Texts.{printed}
use Rattle.coda_report.specs.declared.walk.Frame.{Frame}
use Rattle.coda_report.specs.Volumes.{kind_text, line_at}

-- the text of a path whose names stand behind slashes; the root's is `/`
abbrev pub shown_path : List ℕ → List ℕ
shown_path [] = 47 ∷ []
shown_path (byte ∷ bytes) = byte ∷ bytes

-- what the line of an object begins with
abbrev pub object_head : List ℕ → Fid → NodeKind → List ℕ
object_head path fid kind = printed (shown_path path) ++ 32 ∷ kind_text kind ++ 32 ∷ fid_text fid ++ 32 ∷ []

-- the line of an object, where a node stands
abbrev pub own_from : Option Node → List ℕ → Fid → List ℕ
own_from None path fid = []
own_from (Some node) path fid = line_at (shown_path path) fid node

-- the line of an object, where levels are left and a node stands
unfoldable pub own_line : Nodes → ℕ → List ℕ → Fid → List ℕ
own_line m zero path fid = []
own_line m (suc levels) path fid = own_from (map.get m fid) path fid

-- what a directory takes: a turn and more for each entry, and one in which it is left
abbrev pub turns_in : NodeKind → (Name × Fid → List (List ℕ)) → List (List ℕ)
turns_in (File content) turns = []
turns_in (Link target) turns = []
turns_in (Dir entries) turns = flat_map turns (map.entries entries) ++ [] ∷ []

-- what the object at a fid takes, where one stands there
abbrev pub turns_from : Option Node → (Name × Fid → List (List ℕ)) → List (List ℕ)
turns_from None turns = []
turns_from (Some node) turns = turns_in node.kind turns

-- what each turn puts behind the line of an object
unfoldable pub turns_below : Nodes → ℕ → List ℕ → Fid → List (List ℕ)
turns_below m zero path fid = []
turns_below m (suc levels) path fid =
    turns_from (map.get m fid) (λ e. own_line m levels (path ++ 47 ∷ e.0) e.1 ∷ turns_below m levels (path ++ 47 ∷ e.0) e.1)

-- what each turn of an entry puts: its own line, and then what stands below it
abbrev pub entry_turns : Nodes → ℕ → List ℕ → Name × Fid → List (List ℕ)
entry_turns m levels path e = own_line m levels (path ++ 47 ∷ e.0) e.1 ∷ turns_below m levels (path ++ 47 ∷ e.0) e.1

-- what each turn puts for the entries that are left of a directory
unfoldable pub turns_left : Nodes → ℕ → List ℕ → List (Name × Fid) → List (List ℕ)
turns_left m levels path entries = flat_map (entry_turns m levels path) entries ++ [] ∷ []

-- the entries that are left of a directory
abbrev pub entries_left : Frame → List (Name × Fid)
entries_left frame = drop frame.next (map.entries frame.entries.now)

-- what each turn puts for frames, the deepest first, under the path of the last object shown
unfoldable pub turns_of : Nodes → ℕ → List ℕ → List Frame → List (List ℕ)
turns_of m levels path [] = []
turns_of m levels path (frame ∷ frames) =
    turns_left m (levels - suc (length frames)) (take frame.length path) (entries_left frame) ++ turns_of m levels (take frame.length path) frames

-- each frame's path is a front of the path of the one above it
unfoldable pub Nest : List ℕ → List Frame → Type 0
Nest path [] = Unit {0}
Nest path (frame ∷ frames) = (frame.length ≤ length path) × Nest (take frame.length path) frames
