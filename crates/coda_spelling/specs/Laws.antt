-- What stays within the ranges of formats.
use Rattle.std.specs.Prelude.{◌≡◌, ℕ, Some, List}
use Rattle.std.specs.FinMap as map
use Rattle.coda_fid.specs.declared.fid.Fid.{Fid}
use Rattle.coda_fid.specs.declared.op.Record.{Record}
use Rattle.coda_tree.specs.declared.node.Node.{Node}
use Rattle.coda_tree.specs.Volume.{Nodes, fresh}
use Rattle.coda_certify.specs.Replay.{applied, replay}
use Rattle.coda_certify.specs.Verdicts.{verdict_of, nodes_left}
use Rattle.coda_record.specs.Form.{four}
use Rattle.coda_record.specs.Parts.{u8}
use Rattle.coda_record.specs.Spelling.{HasSpelling}
use Rattle.coda_record.specs.Table as table
use Rattle.coda_spelling.specs.Spelled.{IsSpelled, AreAllSpelled, AreSpelled, IsVolumeSpelled}

abbrev pub ListsAreOfRecords : Type 0
ListsAreOfRecords = (recs : List Record) → HasSpelling (table.records four) recs → AreAllSpelled recs

-- a fresh volume, and nodes after an operation of a client, or once a node came from other nodes
pub record OperationsKeepSpellings : Type 0 where
  pub fresh_volume : (volume : ℕ) → IsVolumeSpelled (fresh volume).nodes
  pub operation : (m : Nodes) (client : ℕ) (rec : Record) → AreSpelled m → HasSpelling u8 client → IsSpelled rec → AreSpelled (applied m client rec)
  pub fetched : (m from : Nodes) (fid : Fid) (node : Node) → AreSpelled m → AreSpelled from → map.get from fid ≡ Some node → AreSpelled (map.insert m fid node)

pub record ReplaysKeepSpellings : Type 0 where
  pub nodes : (m : Nodes) (client : ℕ) (recs : List Record) → IsVolumeSpelled m → HasSpelling u8 client → AreAllSpelled recs → IsVolumeSpelled (nodes_left m (replay m client recs))
  pub verdict : (m : Nodes) (client : ℕ) (recs : List Record) → IsVolumeSpelled m → HasSpelling u8 client → AreAllSpelled recs → HasSpelling table.verdict (verdict_of (replay m client recs))
