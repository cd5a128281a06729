-- What bytes can spell: each number, name and version in the range that its format has.
use Rattle.std.specs.Prelude.{◌≡◌, ◌≤◌, ℕ, Some, List, [], ◌∷◌}
use Rattle.std.specs.FinMap as map
use Rattle.coda_fid.specs.declared.fid.Fid.{Fid}
use Rattle.coda_fid.specs.declared.op.Record.{Record}
use Rattle.coda_tree.specs.declared.node.Node.{Node}
use Rattle.coda_tree.specs.Bindings.{Name}
use Rattle.coda_tree.specs.Volume.{Nodes, child}
use Rattle.coda_record.specs.Form.{four}
use Rattle.coda_record.specs.Parts.{u64}
use Rattle.coda_record.specs.Spelling.{HasSpelling}
use Rattle.coda_record.specs.Table as table

-- the record of an operation, but for whether its number may follow another
pub record IsSpelled (rec : Record) : Type 0 where
  pub number : HasSpelling table.ordinal rec.number
  pub time : HasSpelling u64 rec.time
  pub op : HasSpelling (table.op four) rec.op

-- each of the records, but for the order of their numbers
abbrev pub AreAllSpelled : List Record → Type 0
AreAllSpelled [] = Unit {0}
AreAllSpelled (rec ∷ recs) = IsSpelled rec × AreAllSpelled recs

-- the versions of nodes, and the objects that they bind
pub record AreSpelled (m : Nodes) : Type 0 where
  pub versions : (fid : Fid) (node : Node) → map.get m fid ≡ Some node → HasSpelling table.sid node.sid
  pub bound : (dir fid : Fid) (name : Name) → child m dir name ≡ Some fid → HasSpelling table.fid fid

-- a volume's nodes, which are as many as it may have at most
pub record IsVolumeSpelled (m : Nodes) : Type 0 where
  pub nodes : AreSpelled m
  pub room : map.len m ≤ 100000
