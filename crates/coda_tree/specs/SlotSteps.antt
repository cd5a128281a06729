-- How slots are kept, and what the private changes of them do.
use Rattle.std.specs.Prelude.{◌≡◌, ℕ, ◌<◌, Option, None, cond, option_map, IfSome, IsSome}
use Rattle.std.specs.FinMap as map
use Rattle.std.specs.HashMap as hash
use Rattle.std.specs.HashMap.{HashMap}
use Rattle.coda_fid.specs.Fid.{same_fid}
use Rattle.coda_fid.specs.declared.fid.Fid.{Fid}
use Rattle.coda_tree.specs.declared.slot.Held.{Held}
use Rattle.coda_tree.specs.declared.slots.SlotTable.TheInside.{Inside}
use Rattle.coda_tree.specs.Bindings.{Name}
use Rattle.coda_tree.specs.Volume.{IsDir, bindings}
use Rattle.coda_tree.specs.Slots.{Slots, keyed, nodes_in}

-- what contracts see of slots
abbrev pub slots_of : Inside → Slots
slots_of a = keyed a.slots.entries

-- the nodes are counted
abbrev pub IsCounted : Inside → Type 0
IsCounted a = a.full ≡ map.len (nodes_in (slots_of a))

-- the same is kept at each fid
abbrev pub IsSameSlots : {S : Type 0} → HashMap Fid (Option Held) S → HashMap Fid (Option Held) S → Type 0
IsSameSlots old new = (q : Fid) → hash.get same_fid new q ≡ hash.get same_fid old q

-- the slot at the fid is changed, where there is one, and all else stays
abbrev pub AltersAt : {S : Type 0} → HashMap Fid (Option Held) S → HashMap Fid (Option Held) S → Fid → (Option Held → Option Held) → Type 0
AltersAt old new fid change = (q : Fid) → hash.get same_fid new q ≡ cond (same_fid fid q) (option_map change (hash.get same_fid old fid)) (hash.get same_fid old q)

-- a node that is held is a directory
abbrev pub IsDirSlot : Option Held → Type 0
IsDirSlot slot = IfSome slot (λ (held : Held). IsDir held.node.kind)

-- and does not bind the name
abbrev pub MayBindSlot : Option Held → Name → Type 0
MayBindSlot slot name = IfSome slot (λ (held : Held). IsDir held.node.kind × (map.get (bindings held.node.kind) name ≡ None))

-- or binds it
abbrev pub MayRebindSlot : Option Held → Name → Type 0
MayRebindSlot slot name = IfSome slot (λ (held : Held). IsDir held.node.kind × IsSome (map.get (bindings held.node.kind) name))

-- and a name that it does not bind can come back to it
abbrev pub MayTakeBackSlot : Option Held → Name → ℕ → Type 0
MayTakeBackSlot slot name room = IfSome slot (λ (held : Held). IsDir held.node.kind × (map.get (bindings held.node.kind) name ≡ None) × (map.len (bindings held.node.kind) < room))
