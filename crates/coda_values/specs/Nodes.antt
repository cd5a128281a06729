-- The formats of nodes, version 1, each under its line of the table.
use Rattle.std.specs.Prelude.{ℕ, ◌-◌, Bool, true, List, [], ◌∷◌, length, slice_get, Option, Some, None, option_map}
use Rattle.std.specs.FinMap as map
use Rattle.std.specs.Ordering.{is_lt}
use Rattle.coda_fid.specs.declared.fid.Fid.{Fid}
use Rattle.coda_fid.specs.Name.{name_cmp}
use Rattle.coda_tree.specs.Bindings.{Bindings}
use Rattle.coda_tree.specs.declared.node.Node.{Node}
use Rattle.coda_tree.specs.declared.node.NodeKind.{NodeKind}
use Rattle.coda_tree.specs.declared.node.NodeKind.TheVariants.{File, Link, Dir}
use Rattle.coda_values.specs.Form.{Piece, together, Size, Form, gives, Format, ◌>>=◌}
use Rattle.coda_values.specs.Parts.{u8, u16, u32, u64, where_holds, one_of, list, flag, in_words}
use Rattle.coda_values.specs.Table.{name, target, content, fid, sid}

-- ---- what a directory binds: list of (name, fid), names increasing

-- whether a name may stand behind another
abbrev pub comes_after : Option (List ℕ) → List ℕ → Bool
comes_after None n = true
comes_after (Some before) n = is_lt (name_cmp before n)

-- the last of some names
abbrev pub last_name : List (List ℕ × Fid) → Option (List ℕ)
last_name bs = option_map (λ b. b.0) (slice_get bs (length bs - 1))

-- a name behind another, and what it is bound to
unfoldable pub binding_after : Option (List ℕ) → Format (List ℕ × Fid)
binding_after before = record {
  form = do
    n ← where_holds (comes_after before) name
    f ← fid
    gives (n, f);
  piece = λ b. together ((where_holds (comes_after before) name).piece b.0 ∷ fid.piece b.1 ∷ []);
}

unfoldable pub pairs : Format (List (List ℕ × Fid))
pairs = list binding_after (λ b. Some b.0) None

unfoldable pub bindings : Format Bindings
bindings = in_words map.from_sorted map.entries pairs

-- ---- node: u8 kind (1 file, 2 link, 3 directory), u8 marked, u16 mode, u32 owner, u64 mtime, sid, then what it holds

abbrev pub node_form : {A : Type 0} → Format A → (A → NodeKind) → Form Node
node_form held kind = do
  marked ← flag
  mode ← u16
  owner ← u32
  mtime ← u64
  s ← sid
  x ← held
  gives (record { kind = kind x; mode = mode; owner = owner; mtime = mtime; sid = s; marked = marked })

unfoldable pub file_form : Size → Form Node
file_form size = node_form (content size) (λ c. File c)

unfoldable pub link_form : Size → Form Node
link_form size = node_form (target size) (λ t. Link t)

unfoldable pub dir_form : Form Node
dir_form = node_form bindings (λ b. Dir b)

abbrev pub kind_of : NodeKind → ℕ
kind_of (File c) = 1
kind_of (Link t) = 2
kind_of (Dir b) = 3

abbrev pub held_piece : Size → NodeKind → Piece
held_piece size (File c) = (content size).piece c
held_piece size (Link t) = (target size).piece t
held_piece size (Dir b) = bindings.piece b

abbrev pub node_forms : Size → List (ℕ × Form Node)
node_forms size =
    ((1, file_form size)
    ∷ (2, link_form size)
    ∷ (3, dir_form)
    ∷ [])

unfoldable pub node : Size → Format Node
node size = record {
  form = one_of (node_forms size);
  piece = λ n. together (u8.piece (kind_of n.kind) ∷ flag.piece n.marked ∷ u16.piece n.mode ∷ u32.piece n.owner ∷ u64.piece n.mtime ∷ sid.piece n.sid ∷ held_piece size n.kind ∷ []);
}
