-- In which state a client is on a volume, as a line shows it.
use Rattle.std.specs.Prelude.{◌≡◌, ◌≢◌, ◌⊎◌, ℕ, true, false, List, [], Some}
use Rattle.coda_state.specs.Laws.{twice}
use Rattle.coda_state.specs.declared.state.State.{State}
use Rattle.coda_script.specs.declared.line.Line.TheVariants as line
use Rattle.coda_script.specs.declared.line.Strength.TheVariants.{Strong}
use Rattle.coda_script.specs.declared.reply.ClientState.{ClientState as ShownState}
use Rattle.coda_script.specs.declared.reply.ClientState.TheVariants.{Hoarding, Emulating}
use Rattle.coda_script.specs.declared.reply.Reply.TheVariants.{State as StateReply}
use Rattle.coda_cell.specs.State.{ClientState, ReplicaState, log_of}
use Rattle.coda_cell.specs.States.{link_with, shown_state, is_empty}
use Rattle.coda_shelves.specs.Cells.{Cell, state_of}
use Rattle.coda_shelves.specs.Lines.{Happens, client_down, replica_down, is_cut, links_to}
use Rattle.coda_runs.specs.Performed.{CanReach}

-- The state of a client, which is up, on a volume. Whatever state it was in, two looks at the link to the volume's server, which is down where the
-- replica is, and at the client's log make it this one. It emulates exactly where it can't reach the server; and it hoards exactly where it reaches
-- the server over a strong link and has no record left to send.
pub record IsStateOf (cell : Cell) (client volume : ℕ) (state : ShownState) : Type 0 where
  pub at_client : ClientState
  pub at_server : ReplicaState
  pub up : client_down cell client ≡ false
  pub made : (state_of cell).clients client ≡ Some at_client
  pub there : (state_of cell).replicas volume ≡ Some at_server
  pub settles : (before : State) → state ≡ shown_state (twice before (link_with (links_to cell volume client at_server.server)) (is_empty (log_of (at_client.volumes volume))))
  pub cut_off : (is_cut (cell.links client at_server.server) ≡ true) ⊎ (replica_down cell at_server.server volume ≡ true) → state ≡ Emulating
  pub reaches : CanReach cell client volume at_server.server → state ≢ Emulating
  pub hoards : CanReach cell client volume at_server.server → cell.links client at_server.server ≡ Strong → (log_of (at_client.volumes volume)).chunk ≡ []
      → (log_of (at_client.volumes volume)).records ≡ [] → state ≡ Hoarding
  pub strong : state ≡ Hoarding → cell.links client at_server.server ≡ Strong
  pub none_left : state ≡ Hoarding → ((log_of (at_client.volumes volume)).chunk ≡ []) × ((log_of (at_client.volumes volume)).records ≡ [])

-- Where a line shows the state of a client on a volume, it is in that state, and nothing changes.
abbrev pub ShownStatesAreSettled : Type 0
ShownStatesAreSettled =
    (cell : Cell) (client volume : ℕ) (state : ShownState) (outside : List (List ℕ)) (new : Cell) → Happens cell (line.ShowState client volume) (StateReply state) outside new
    → IsStateOf cell client volume state × (new ≡ cell)
