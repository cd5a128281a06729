-- When a client emulates the server of a volume, told by what it can fetch there.
use Rattle.std.specs.Prelude.{◌≡◌, ◌≢◌, ℕ, true, false, Some, Ok, Err}
use Rattle.std.specs.FinMap as map
use Rattle.coda_fid.specs.declared.fid.Fid.{Fid}
use Rattle.coda_tree.specs.declared.node.Node.{Node}
use Rattle.coda_script.specs.declared.line.Strength.TheVariants.{Down}
use Rattle.coda_venus.specs.declared.refused.Refused.TheVariants.{Need}
use Rattle.coda_cell.specs.State.{ClientState, ReplicaState, CellState}
use Rattle.coda_lines.specs.Clients.{sources_of, emulates}

-- A client emulates the server of a volume while its link to the server of the volume's replica is down, whatever is in
-- its log, and can then fetch nothing of the volume. Over a link of any other strength it doesn't, and it can fetch each
-- object that the replica has.
pub record ClientsEmulateWhenCutOff : Type 0 where
  pub emulating : (s : CellState) (number volume : ℕ) (c : ClientState) (r : ReplicaState)
      → s.replicas volume ≡ Some r → s.links number r.server ≡ Down → emulates s number c volume ≡ true
  pub nothing : (s : CellState) (number : ℕ) (fid : Fid) (r : ReplicaState) → s.replicas fid.volume ≡ Some r
      → s.links number r.server ≡ Down → sources_of s number fid ≡ Err (Need fid)
  pub linked : (s : CellState) (number volume : ℕ) (c : ClientState) (r : ReplicaState)
      → s.replicas volume ≡ Some r → s.links number r.server ≢ Down → emulates s number c volume ≡ false
  pub fetched : (s : CellState) (number : ℕ) (fid : Fid) (node : Node) (r : ReplicaState)
      → s.replicas fid.volume ≡ Some r → s.links number r.server ≢ Down → map.get r.tree.nodes fid ≡ Some node
      → sources_of s number fid ≡ Ok (node, r.server)
