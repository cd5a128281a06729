-- How many blocks of a cache a node takes.
use Rattle.std.specs.Prelude.{ℕ, ◌+◌, ◌/◌, length}
use Rattle.std.specs.FinMap as map
use Rattle.coda_tree.specs.declared.node.NodeKind.{NodeKind}
use Rattle.coda_tree.specs.declared.node.NodeKind.TheVariants.{File, Link, Dir}

-- one block for the node, one for each 1024 bytes of content and one for the rest, and one for each 32 bindings
abbrev pub blocks_of : NodeKind → ℕ
blocks_of (File content) = 1 + (length content + 1023) / 1024
blocks_of (Link target) = 1
blocks_of (Dir entries) = 1 + map.len entries / 32
