-- The slots of a volume: a place for a node at each fid that has one, full or empty.
use Rattle.std.specs.Prelude.{◌≢◌, ℕ, Bool, true, false, List, [], ◌∷◌, Option, Some, None, refl}
use Rattle.std.specs.FinMap as map
use Rattle.std.specs.FinMap.{FinMap}
use Rattle.std.specs.Coded.{Coded, code_by, coded×, coded_ℕ, coded_option}
use Rattle.coda_fid.specs.Fid.{fid_cmp, coded_fid}
use Rattle.coda_fid.specs.declared.fid.Fid.{Fid}
use Rattle.coda_tree.specs.declared.node.Node.{Node}
use Rattle.coda_tree.specs.declared.slot.Held.{Held}
use Rattle.coda_tree.specs.Volume.{Nodes}

-- the finite map of a list of entries
abbrev pub keyed : {X : Type 0} → List (Fid × X) → FinMap fid_cmp X
keyed entries = map.from_entries entries

-- for each fid that has a slot, what is held there: nothing, or a node with the directory that binds it
abbrev pub Slots : Type 0
Slots = FinMap fid_cmp (Option Held)

-- the code of slots, from that of what is held
abbrev pub coded_slots : Coded Held → Coded Slots
coded_slots held = map.code coded_fid (coded_option held)

-- what is held at a fid, where it has a slot
abbrev pub held_in : Option (Option Held) → Option Held
held_in None = None
held_in (Some slot) = slot

-- the node that is held
abbrev pub node_held : Option Held → Option Node
node_held None = None
node_held (Some held) = Some held.node

-- the directory that binds the node that is held
abbrev pub parent_held : Option Held → Option Fid
parent_held None = None
parent_held (Some held) = held.parent

-- the nodes with what a slot holds
abbrev pub with_slot : Nodes → Fid → Option Held → Nodes
with_slot m f None = map.remove m f
with_slot m f (Some held) = map.insert m f held.node

-- the nodes that a list of slots holds
abbrev pub nodes_among : List (Fid × Option Held) → Nodes
nodes_among [] = map.empty
nodes_among (e ∷ es) = with_slot (nodes_among es) e.0 e.1

-- the nodes that slots hold
unfoldable pub nodes_in : Slots → Nodes
nodes_in s = nodes_among (map.entries s)

-- the directory that binds the node at a fid
abbrev pub parent_in : Slots → Fid → Option Fid
parent_in s f = parent_held (held_in (map.get s f))

-- no slot is empty
abbrev pub IsWhole : Slots → Type 0
IsWhole s = (f : Fid) → map.get s f ≢ Some None

-- ---- changes

-- the map with the changed value at f, where there was one, and else as it is
abbrev pub altered_at : {X : Type 0} → Option X → FinMap fid_cmp X → Fid → (X → X) → FinMap fid_cmp X
altered_at None s f change = s
altered_at (Some x) s f change = map.insert s f (change x)

-- the map with the value at f changed, where there is one
abbrev pub altered : {X : Type 0} → FinMap fid_cmp X → Fid → (X → X) → FinMap fid_cmp X
altered s f change = altered_at (map.get s f) s f change

-- a slot whose node is changed
abbrev pub slot_changed : (Node → Node) → Option Held → Option Held
slot_changed change None = None
slot_changed change (Some held) = Some (record { node = change held.node; parent = held.parent })

-- a slot whose node another directory binds
abbrev pub slot_moved : Fid → Option Held → Option Held
slot_moved dir None = None
slot_moved dir (Some held) = Some (record { node = held.node; parent = Some dir })

-- a slot that holds this, whatever it held
abbrev pub slot_with : Option Held → Option Held → Option Held
slot_with new old = new

-- the slots without that at f, where it is empty
abbrev pub purged_at : Option (Option Held) → Slots → Fid → Slots
purged_at None s f = s
purged_at (Some None) s f = map.remove s f
purged_at (Some (Some held)) s f = s

abbrev pub purged : Slots → Fid → Slots
purged s f = purged_at (map.get s f) s f

-- the slots without what was put at f: without the slot too, where there was none before
abbrev pub withdrawn : Bool → Slots → Fid → Slots
withdrawn true s f = map.remove s f
withdrawn false s f = altered s f (slot_with None)

-- ---- whole bodies

-- what contracts see of a body
pub record Slotted : Type 0 where
  pub number : ℕ
  pub slots : Slots

-- the code of a body, from that of what is held
abbrev pub coded_slotted : Coded Held → Coded Slotted
coded_slotted held = code_by (ℕ × Slots) (coded× coded_ℕ (coded_slots held)) (λ b. (b.number, b.slots)) (λ p. record { number = p.0; slots = p.1 }) (λ _. refl)
