-- What contracts see of a body, and what always holds of it.
use Rattle.coda_tree.specs.declared.body.Body.TheInside.{Inside}
use Rattle.coda_tree.specs.Slots.{Slotted}
use Rattle.coda_tree.specs.Keeping.{IsKeptIn}

-- what contracts see of a body
abbrev pub slotted_of : Inside → Slotted
slotted_of a = record { number = a.number; slots = a.slots }

-- what always holds of a body: it keeps the nodes of a volume
abbrev pub IsKeptBody : Inside → Type 0
IsKeptBody a = IsKeptIn a.number a.slots
