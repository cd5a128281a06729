-- What contracts see of a draft, and what always holds of it.
use Rattle.std.specs.Prelude.{◌≡◌, ℕ, List, Some, None}
use Rattle.std.specs.FinMap as map
use Rattle.coda_fid.specs.declared.fid.Fid.{Fid}
use Rattle.coda_tree.specs.declared.undo.Undo.{Undo}
use Rattle.coda_tree.specs.declared.draft.Draft.TheInside.{Inside}
use Rattle.coda_tree.specs.Drafted.{Drafted}
use Rattle.coda_tree.specs.Slots.{Slots, Slotted, nodes_in, IsWhole}
use Rattle.coda_tree.specs.Keeping.{IsKeptIn}
use Rattle.coda_tree.specs.Undoing.{MayUndoAll, undone_all, IsEmptiedBy}

-- a draft that left these objects: its start is what undoing all its edits gives
abbrev pub drafted : Slotted → List Undo → Drafted
drafted b us = record { number = b.number; start = nodes_in (undone_all b.slots us); nodes = nodes_in b.slots }

-- what contracts see of a draft
abbrev pub drafted_of : Inside → Drafted
drafted_of a = drafted a.body a.undos.items

-- the edits can be undone, which gives a volume without empty slots, and each empty slot is one that they emptied
pub record CanUndo (number : ℕ) (s : Slots) (us : List Undo) : Type 0 where
  pub may : MayUndoAll s us
  pub kept : IsKeptIn number (undone_all s us)
  pub whole : IsWhole (undone_all s us)
  pub empties : (f : Fid) → map.get s f ≡ Some None → IsEmptiedBy f us

-- what always holds of a draft
abbrev pub IsDraft : Inside → Type 0
IsDraft a = CanUndo a.body.number a.body.slots a.undos.items
