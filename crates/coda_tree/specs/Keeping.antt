-- How a volume is kept: its nodes, and beside each the directory that binds it.
use Rattle.std.specs.Prelude.{◌≡◌, ℕ, Option, Some}
use Rattle.coda_fid.specs.Fid.{root_of}
use Rattle.coda_fid.specs.declared.fid.Fid.{Fid}
use Rattle.coda_tree.specs.Bindings.{Name}
use Rattle.coda_tree.specs.Volume.{Nodes, child, IsVolume}
use Rattle.coda_tree.specs.Slots.{Slots, nodes_in, parent_in}

-- for each bound fid the directory that binds it is kept, and nothing else
pub record AreParents (m : Nodes) (parents : Fid → Option Fid) : Type 0 where
  pub parent : (f p : Fid) → parents f ≡ Some p → (n : Name) × (child m p n ≡ Some f)
  pub binds : (p : Fid) (n : Name) (f : Fid) → child m p n ≡ Some f → parents f ≡ Some p

-- the nodes are those of a volume, and their parents are kept
pub record IsKept (root : Fid) (m : Nodes) (parents : Fid → Option Fid) : Type 0 where
  pub volume : IsVolume root m
  pub kept : AreParents m parents

-- the nodes that slots hold are those of a volume, and their parents are kept
abbrev pub IsKeptIn : ℕ → Slots → Type 0
IsKeptIn number s = IsKept (root_of number) (nodes_in s) (parent_in s)
