-- Which nodes can be spelled, so that a journal can keep them.
use Rattle.std.specs.Prelude.{◌≡◌, ◌<◌, ℕ, Bool, List, Some, slice_get}
use Rattle.coda_fid.specs.declared.fid.Fid.{Fid}
use Rattle.coda_tree.specs.Bindings.{Name}
use Rattle.coda_tree.specs.declared.node.Node.{Node}
use Rattle.coda_record.specs.Entries as entries
use Rattle.coda_record.specs.Form.{four}
use Rattle.coda_record.specs.Spelling.{HasSpelling}
use Rattle.coda_record.specs.Table as table

-- whether a node is within the ranges of its format
abbrev pub can_be_spelled : Node → Bool
can_be_spelled n = ((entries.node four).piece n).fits

-- a name, and the object that it is bound to
abbrev pub IsPairSpelled : (Name × Fid) → Type 0
IsPairSpelled pair = HasSpelling table.name pair.0 × HasSpelling table.fid pair.1

-- each of so many pairs in front
abbrev pub AreSpelledTo : ℕ → List (Name × Fid) → Type 0
AreSpelledTo count pairs = (index : ℕ) (pair : Name × Fid) → index < count → slice_get pairs index ≡ Some pair → IsPairSpelled pair
