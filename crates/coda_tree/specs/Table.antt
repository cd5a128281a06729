-- How a table of nodes is kept, and what its private changes do.
use Rattle.std.specs.Prelude.{◌≡◌, List, Option, Some, None, cond, option_map}
use Rattle.std.specs.FinMap as map
use Rattle.std.specs.HashMap as hash
use Rattle.std.specs.HashMap.{HashMap}
use Rattle.std.specs.declared.cmp.Ordering.{Ordering}
use Rattle.std.specs.declared.cmp.Ordering.TheVariants.{Less, Equal, Greater}
use Rattle.coda_fid.specs.Fid.{fid_cmp, same_fid}
use Rattle.coda_fid.specs.declared.fid.Fid.{Fid}
use Rattle.coda_tree.specs.declared.node.Node.{Node}
use Rattle.coda_tree.specs.Bindings.{Name}
use Rattle.coda_tree.specs.Volume.{Nodes, bind_in, unbind_in}

-- the finite map of a list of entries
abbrev pub nodes_of : List (Fid × Node) → Nodes
nodes_of entries = map.from_entries entries

-- the same is kept at each fid
abbrev pub IsSame : {S : Type 0} → HashMap Fid Node S → HashMap Fid Node S → Type 0
IsSame old new = (q : Fid) → hash.get same_fid new q ≡ hash.get same_fid old q

-- the node at the fid is changed, where there is one, and all else stays
abbrev pub ChangesAt : {S : Type 0} → HashMap Fid Node S → HashMap Fid Node S → Fid → (Node → Node) → Type 0
ChangesAt old new fid change = (q : Fid) → hash.get same_fid new q ≡ cond (same_fid fid q) (option_map change (hash.get same_fid old fid)) (hash.get same_fid old q)

-- the directory's node binds the name too, and all else stays
abbrev pub BindsAt : {S : Type 0} → HashMap Fid Node S → HashMap Fid Node S → Fid → Name → Fid → Type 0
BindsAt old new dir name fid = ChangesAt old new dir (λ node. bind_in node name fid)

-- the directory's node binds nothing at the name, and all else stays
abbrev pub UnbindsAt : {S : Type 0} → HashMap Fid Node S → HashMap Fid Node S → Fid → Name → Type 0
UnbindsAt old new dir name = ChangesAt old new dir (λ node. unbind_in node name)

-- the first value, or else the second
abbrev pub or_else : {X : Type 0} → Option X → Option X → Option X
or_else None o = o
or_else (Some x) o = Some x

-- the first of two fids by what comparing them answers
abbrev pub earlier : Ordering → Fid → Fid → Fid
earlier Less a b = a
earlier Equal a b = b
earlier Greater a b = b

-- the first of a fid and another, where there is one
abbrev pub earliest : Option Fid → Fid → Fid
earliest None b = b
earliest (Some a) b = earlier (fid_cmp a b) a b
