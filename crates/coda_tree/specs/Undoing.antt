-- How edits of slots are undone, and what they rely on.
use Rattle.std.specs.Prelude.{◌≡◌, ◌≢◌, ℕ, ◌<◌, List, [], ◌∷◌, Option, Some, None, IsSome, ◌⊎◌}
use Rattle.std.specs.FinMap as map
use Rattle.coda_fid.specs.declared.fid.Fid.{Fid}
use Rattle.coda_tree.specs.declared.node.Node.{Node}
use Rattle.coda_tree.specs.declared.undo.Undo.{Undo}
use Rattle.coda_tree.specs.declared.undo.Undo.TheVariants.{Added, Detached, Moved, Replaced, Written}
use Rattle.coda_tree.specs.Bindings.{Name}
use Rattle.coda_tree.specs.Volume.{child, bindings, IsDirAt}
use Rattle.coda_tree.specs.Parts.{given_back}
use Rattle.coda_tree.specs.Slots.{Slots, nodes_in, altered, slot_changed, slot_moved, withdrawn, purged}
use Rattle.coda_tree.specs.SlotEdits.{slots_bound, slots_unbound}

-- the fid has a slot
abbrev pub HasSlot : Slots → Fid → Type 0
HasSlot s f = map.get s f ≢ None

-- how many names a node binds, where there is one
abbrev pub count_of : Option Node → ℕ
count_of None = 0
count_of (Some node) = map.len (bindings node.kind)

-- a directory does not bind the name, and the room is enough for it to take it back
pub record MayTakeBack (s : Slots) (dir : Fid) (name : Name) (room : ℕ) : Type 0 where
  pub there : IsDirAt (nodes_in s) dir
  pub free : child (nodes_in s) dir name ≡ None
  pub enough : count_of (map.get (nodes_in s) dir) < room

-- the slots before an edit that was made last: its steps taken back, the last one first
abbrev pub undone : Slots → Undo → Slots
undone s (Added dir name fid fresh) = withdrawn fresh (slots_unbound s dir name) fid
undone s (Detached dir name fid held room) = slots_bound (map.insert s fid held) dir name fid
undone s (Moved from name to new fid room) = slots_unbound (slots_bound (altered s fid (slot_moved from)) from name fid) to new
undone s (Replaced old held from name to new fid room) = slots_bound (slots_bound (map.insert (altered s fid (slot_moved from)) old held) from name fid) to new old
undone s (Written fid parts) = altered s fid (slot_changed (given_back parts))

-- a directory binds the name
pub record MayRebind (s : Slots) (dir : Fid) (name : Name) : Type 0 where
  pub there : IsDirAt (nodes_in s) dir
  pub bound : IsSome (child (nodes_in s) dir name)

-- what is relied on where an edit is undone
abbrev pub MayUndo : Slots → Undo → Type 0
MayUndo s (Added dir name fid fresh) = IsDirAt (nodes_in s) dir
MayUndo s (Detached dir name fid held room) = HasSlot s fid × MayTakeBack (map.insert s fid held) dir name room
MayUndo s (Moved from name to new fid room) = MayTakeBack (altered s fid (slot_moved from)) from name room × IsDirAt (nodes_in (slots_bound (altered s fid (slot_moved from)) from name fid)) to
MayUndo s (Replaced old held from name to new fid room) = HasSlot (altered s fid (slot_moved from)) old × MayTakeBack (map.insert (altered s fid (slot_moved from)) old held) from name room × MayRebind (slots_bound (map.insert (altered s fid (slot_moved from)) old held) from name fid) to new
MayUndo s (Written fid parts) = Unit {0}

-- the fid whose slot an edit emptied
abbrev pub emptied : Undo → Option Fid
emptied (Added dir name fid fresh) = None
emptied (Detached dir name fid held room) = Some fid
emptied (Moved from name to new fid room) = None
emptied (Replaced old held from name to new fid room) = Some old
emptied (Written fid parts) = None

-- t is s after an edit that u undoes: it gives s back, can be undone, and empties no slot but the one that it names
pub record Undoes (s t : Slots) (u : Undo) : Type 0 where
  pub back : undone t u ≡ s
  pub may : MayUndo t u
  pub empties : (f : Fid) → map.get t f ≡ Some None → (emptied u ≡ Some f) ⊎ (map.get s f ≡ Some None)

-- the slots before edits that were made last, in this order
abbrev pub undone_all : Slots → List Undo → Slots
undone_all s [] = s
undone_all s (u ∷ us) = undone (undone_all s us) u

-- each of the edits can be undone once those after it are
abbrev pub MayUndoAll : Slots → List Undo → Type 0
MayUndoAll s [] = Unit {0}
MayUndoAll s (u ∷ us) = MayUndoAll s us × MayUndo (undone_all s us) u

-- one of the edits emptied the slot
abbrev pub IsEmptiedBy : Fid → List Undo → Type 0
IsEmptiedBy f [] = ⊥
IsEmptiedBy f (u ∷ us) = (emptied u ≡ Some f) ⊎ IsEmptiedBy f us

-- the slots without the one at a fid, where there is a fid and its slot is empty
abbrev pub purged_where : Slots → Option Fid → Slots
purged_where s None = s
purged_where s (Some f) = purged s f

-- the slots without the one that an edit emptied
abbrev pub purged_after : Slots → Undo → Slots
purged_after s u = purged_where s (emptied u)

-- the slots without those that edits emptied
abbrev pub purged_all : Slots → List Undo → Slots
purged_all s [] = s
purged_all s (u ∷ us) = purged_after (purged_all s us) u
