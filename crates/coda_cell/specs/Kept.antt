-- What a client holds, by the rules that its own operations and its fetches keep.
use Rattle.std.specs.Prelude.{◌≡◌, ℕ, true, ◌⊎◌, Some, List}
use Rattle.coda_fid.specs.declared.fid.Fid.{Fid}
use Rattle.coda_fid.specs.declared.op.Record.{Record}
use Rattle.coda_tree.specs.Bindings.{Name}
use Rattle.coda_tree.specs.Volume.{Nodes, child, has}
use Rattle.coda_cml.specs.Steady.{any_record, makes_in, unbinds}
use Rattle.coda_plain.specs.Deeds.{IsMade}
use Rattle.coda_plain.specs.Cell.{PlainCell}
use Rattle.coda_plain.specs.Moves.{done_on}
use Rattle.coda_histories.specs.Forests.{IsForest}
use Rattle.coda_cell.specs.Held.{AreUnderDirs}
use Rattle.coda_cell.specs.State.{pending, ClientState}

-- a directory binds objects of its own volume alone
abbrev pub AreWithin : Nodes → Type 0
AreWithin m = (dir fid : Fid) (name : Name) → child m dir name ≡ Some fid → fid.volume ≡ dir.volume

-- each object that a run created in a directory is bound there, unless the run took it from where it was bound
abbrev pub AreChildrenKept : Nodes → List Record → Type 0
AreChildrenKept m run = (dir kid : Fid) → any_record (makes_in dir kid) run ≡ true → any_record (unbinds kid) run ≡ true ⊎ ((name : Name) × (child m dir name ≡ Some kid))

-- What a client holds is in order: the parent of each object is a directory of the object's volume, it is a forest, a directory binds objects of its own
-- volume alone, no object is held, nor named by a directory that is, which its client didn't create, and what is pending created nothing that
-- isn't where it put it or taken from there.
pub record IsHolding (cell : PlainCell) (c : ClientState) : Type 0 where
  pub under : AreUnderDirs c.held
  pub forest : IsForest c.held
  pub within : AreWithin c.held.nodes
  pub made : (fid : Fid) → has c.held.nodes fid ≡ true → IsMade fid.volume (done_on cell fid.vnode fid.volume) fid
  pub named : (dir fid : Fid) (name : Name) → child c.held.nodes dir name ≡ Some fid → IsMade fid.volume (done_on cell fid.vnode fid.volume) fid
  pub kept : (volume : ℕ) → AreChildrenKept c.held.nodes (pending (c.volumes volume))
