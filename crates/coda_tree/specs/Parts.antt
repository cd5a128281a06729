-- The parts of a node that a write displaces, and how they come back.
use Rattle.std.specs.Prelude.{ℕ, List, Option, Some, None}
use Rattle.coda_tree.specs.declared.node.Node.{Node}
use Rattle.coda_tree.specs.declared.node.Parts.{Parts}
use Rattle.coda_tree.specs.declared.node.NodeKind.{NodeKind}
use Rattle.coda_tree.specs.declared.node.NodeKind.TheVariants.{File, Link, Dir}
use Rattle.coda_tree.specs.Volume.{written}

-- the content that a new one displaces: that of a file
abbrev pub displaced : Option (List ℕ) → NodeKind → Option (List ℕ)
displaced None kind = None
displaced (Some new) (File content) = Some content
displaced (Some new) (Link target) = None
displaced (Some new) (Dir entries) = None

-- the parts of a node before a write, with the content where the write has a new one
abbrev pub parts_before : Option (List ℕ) → Node → Parts
parts_before new node = record { content = displaced new node.kind; mode = node.mode; owner = node.owner; mtime = node.mtime; sid = node.sid }

-- the node with those parts
abbrev pub given_back : Parts → Node → Node
given_back parts node = written (record { content = parts.content; mode = Some parts.mode; owner = Some parts.owner; mtime = Some parts.mtime }) parts.sid node
