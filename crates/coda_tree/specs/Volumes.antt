-- What contracts see of a volume, and what always holds of it.
use Rattle.coda_tree.specs.declared.volume.Volume.TheInside.{Inside}
use Rattle.coda_tree.specs.Volume.{Tree}
use Rattle.coda_tree.specs.Slots.{Slotted, nodes_in, IsWhole}

-- what contracts see of a volume: no slots
abbrev pub seen : Slotted → Tree
seen b = record { number = b.number; nodes = nodes_in b.slots }

abbrev pub tree_of : Inside → Tree
tree_of a = seen a.body

-- what always holds of a volume: no slot of it is empty
abbrev pub IsWholeVolume : Inside → Type 0
IsWholeVolume a = IsWhole a.body.slots
