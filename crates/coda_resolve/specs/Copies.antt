-- What the replicas hold of one object.
use Rattle.std.specs.Prelude.{Bool, false, List, [], ◌∷◌, Option, Some, None}
use Rattle.std.specs.FinMap as map
use Rattle.coda_tree.specs.Bindings.{Bindings}
use Rattle.coda_tree.specs.Volume.{bindings}
use Rattle.coda_vv.specs.Vector.{Counts, no_updates}
use Rattle.coda_reslog.specs.declared.entry.ResEntry.{ResEntry}
use Rattle.coda_reslog.specs.declared.change.Held.{Held}

-- what each replica holds of an object, the lowest server first; one that lacks it holds nothing
abbrev pub Copies : Type 0
Copies = List (Option Held)

-- the updates that are in a copy: none, where there is no copy
abbrev pub vector_of : Option Held → Counts
vector_of None = no_updates
vector_of (Some held) = held.vector.0

-- what a copy binds: nothing, unless it is a directory
abbrev pub bindings_of : Option Held → Bindings
bindings_of None = map.empty
bindings_of (Some held) = bindings held.node.kind

-- the items of a log, where there is one
abbrev pub items_of : Option (List ResEntry) → List ResEntry
items_of None = []
items_of (Some log) = log

-- the last updates of a copy
abbrev pub log_of : Option Held → List ResEntry
log_of None = []
log_of (Some held) = items_of held.ring

-- whether a copy is marked
abbrev pub is_marked : Option Held → Bool
is_marked None = false
is_marked (Some held) = held.node.marked

-- what is among the options, the first of them
abbrev pub first_some : {X : Type 0} → List (Option X) → Option X
first_some [] = None
first_some (None ∷ xs) = first_some xs
first_some (Some x ∷ xs) = Some x
