-- The objects of a volume in path order, and the text of a volume.
use Rattle.std.specs.Prelude.{ℕ, zero, suc, Bool, true, false, List, [], ◌∷◌, ◌++◌, length, codes, Option, Some, None}
use Rattle.std.specs.List.{flat_map}
use Rattle.std.specs.Fmt.{decimal}
use Rattle.std.specs.FinMap as map
use Rattle.coda_fid.specs.Fid.{fid_text, sid_text, root_of}
use Rattle.coda_fid.specs.Path.{path_text}
use Rattle.coda_fid.specs.declared.fid.Fid.{Fid}
use Rattle.coda_tree.specs.declared.node.Node.{Node}
use Rattle.coda_tree.specs.declared.node.NodeKind.{NodeKind}
use Rattle.coda_tree.specs.declared.node.NodeKind.TheVariants.{File, Link, Dir}
use Rattle.coda_tree.specs.Bindings.{Name}
use Rattle.coda_tree.specs.Volume.{Nodes, Tree, bindings}
use Rattle.coda_text.specs.Texts.{printed}
use Rattle.coda_report.specs.Printing.{line, text_of_content, mode_text}

-- ---- which objects are shown, and in which order

-- an object as a volume shows it: the names that lead to it from the root, its fid and its node
pub record Shown : Type 0 where
  pub path : List Name
  pub fid : Fid
  pub node : Node

-- the object, where a node stands at its fid, and what each of its entries gives
abbrev pub shown_from : Option Node → List Name → Fid → (Name × Fid → List Shown) → List Shown
shown_from None path fid below = []
shown_from (Some node) path fid below = record { path = path; fid = fid; node = node } ∷ flat_map below (map.entries (bindings node.kind))

-- the object at a fid and all below it, so many levels deep: a directory before its entries, and these by the bytes of
-- their names
unfoldable pub shown_below : Nodes → ℕ → List Name → Fid → List Shown
shown_below m zero path fid = []
shown_below m (suc levels) path fid = shown_from (map.get m fid) path fid (λ e. shown_below m levels (path ++ e.0 ∷ []) e.1)

-- the objects of a volume in path order; no object stands deeper than there are objects
unfoldable pub path_order : Fid → Nodes → List Shown
path_order root m = shown_below m (map.len m) [] root

-- ---- how they are printed

-- the word for a kind
abbrev pub kind_text : NodeKind → List ℕ
kind_text (File content) = codes "file"
kind_text (Link target) = codes "link"
kind_text (Dir entries) = codes "dir"

-- what a line shows of a file's content or a link's target
abbrev pub content_text : NodeKind → List ℕ
content_text (File content) = 32 ∷ decimal (length content) ++ 32 ∷ text_of_content content
content_text (Link target) = 32 ∷ text_of_content target
content_text (Dir entries) = []

-- what a line shows of a mark
abbrev pub mark_text : Bool → List ℕ
mark_text true = codes " marked"
mark_text false = []

-- what a line shows of a node's attributes
abbrev pub attributes_text : Node → List ℕ
attributes_text node = mode_text node.mode ++ 32 ∷ decimal node.owner ++ 32 ∷ decimal node.mtime ++ 32 ∷ sid_text node.sid

-- the line of an object whose path has this text: the path, kind, fid and attributes, then content and mark
abbrev pub line_at : List ℕ → Fid → Node → List ℕ
line_at path fid node =
    line (printed path ++ 32 ∷ kind_text node.kind ++ 32 ∷ fid_text fid ++ 32 ∷ attributes_text node ++ content_text node.kind ++ mark_text node.marked)

-- the line of an object
abbrev pub object_line : Shown → List ℕ
object_line shown = line_at (path_text shown.path) shown.fid shown.node

-- the first line of a volume that is shown
abbrev pub volume_line : ℕ → Tree → List ℕ
volume_line server tree =
    line (codes "volume " ++ decimal tree.number ++ codes " at " ++ decimal server ++ codes " objects " ++ decimal (map.len tree.nodes))

-- a volume at a server: each object on a line, in path order
abbrev pub volume_text : ℕ → Tree → List ℕ
volume_text server tree = volume_line server tree ++ flat_map object_line (path_order (root_of tree.number) tree.nodes)
