-- That a chunk which is frozen goes again, that a verdict thaws it, and that what a drain tells of one is so.
use Rattle.std.specs.Prelude.{◌≡◌, ◌⊎◌, ◌+◌, ◌≤◌, ℕ, false, List, Option, Some, None}
use Rattle.coda_certify.specs.declared.verdict.Verdict.{Verdict}
use Rattle.coda_cml.specs.declared.frozen.Frozen.{Frozen}
use Rattle.coda_plain.specs.Cell.{Joins, deeds_of}
use Rattle.coda_plain.specs.Decisions.{last_of}
use Rattle.coda_plain.specs.Deeds.{settlements_of}
use Rattle.coda_plain.specs.Histories.{In}
use Rattle.coda_script.specs.declared.line.Line.{Line}
use Rattle.coda_script.specs.declared.line.Line.TheVariants as line
use Rattle.coda_script.specs.declared.line.Task.TheVariants as task
use Rattle.coda_script.specs.declared.reply.Answer.{Answer}
use Rattle.coda_script.specs.declared.reply.Answer.TheVariants.{Decided}
use Rattle.coda_script.specs.declared.reply.Reply.{Reply}
use Rattle.coda_script.specs.declared.reply.Reply.TheVariants.{Drained, Sent}
use Rattle.coda_cell.specs.State.{log_of, ClientState}
use Rattle.coda_cell.specs.Steps.{alone}
use Rattle.coda_shelves.specs.Cells.{Cell, Stand, stand_of, shelves_of, state_of}
use Rattle.coda_shelves.specs.Kept.{IsDecided}
use Rattle.coda_shelves.specs.Lines.{client_down, replica_down, is_cut, refused_full, refused_fault, Happens}
use Rattle.coda_shelves.specs.Running.{IsKept}
use Rattle.coda_shelves.specs.Shelves.{found_on}

-- a client has this chunk of a volume on its way
pub record HasFrozen (cell : Cell) (client volume : ℕ) (chunk : Frozen) : Type 0 where
  pub state : ClientState
  pub there : (state_of cell).clients client ≡ Some state
  pub frozen : (log_of (state.volumes volume)).frozen ≡ Some chunk

-- The client, the replica of a volume on a server and the link between both are up, and the replica decided the client's chunk before this one, or this one.
pub record CanGo (cell : Cell) (client volume server number : ℕ) : Type 0 where
  pub client_up : client_down cell client ≡ false
  pub replica_up : replica_down cell server volume ≡ false
  pub linked : is_cut (cell.links client server) ≡ false
  pub at : Stand
  pub stands : stand_of cell volume ≡ Some at
  pub home : alone at.servers ≡ server
  pub decided : number ≤ (last_of volume (cell.replicas at.row server).disk.history client).number + 1

abbrev pub drains : ℕ → ℕ → ℕ → Option ℕ → Line
drains client volume server window = line.Task (task.Drain client volume server window)

-- In every cell that is kept, a chunk that is frozen is the one that a drain or a send names, whatever window is given; and where all are up, a drain to the chunk's
-- server is answered by a verdict on it, unless a journal is full or a disk fails. So a chunk whose letter was lost goes again, and so does one whose verdict was lost.
pub record FrozenChunksGoAgain : Type 0 where
  pub drained : (cell : Cell) → IsKept cell → (client volume server : ℕ) (window : Option ℕ) (chunk : Frozen) (number : ℕ) (answer : Answer) (outside : List (List ℕ)) (new : Cell) → HasFrozen cell client volume chunk
      → Happens cell (drains client volume server window) (Drained number answer) outside new → number ≡ chunk.number
  pub sent : (cell : Cell) → IsKept cell → (client volume server : ℕ) (window : Option ℕ) (chunk : Frozen) (message number : ℕ) (outside : List (List ℕ)) (new : Cell) → HasFrozen cell client volume chunk
      → Happens cell (line.Send client volume server window) (Sent message number) outside new → (number ≡ chunk.number) × (chunk.home ≡ server)
  pub decided : (cell : Cell) → IsKept cell → (client volume : ℕ) (window : Option ℕ) (chunk : Frozen) (reply : Reply) (outside : List (List ℕ)) (new : Cell) → HasFrozen cell client volume chunk → CanGo cell client volume chunk.home chunk.number
      → Happens cell (drains client volume chunk.home window) reply outside new → ((verdict : Verdict) × (reply ≡ Drained chunk.number (Decided verdict))) ⊎ (reply ≡ refused_full) ⊎ (reply ≡ refused_fault)

-- In every cell that is kept, where a drain is answered by a verdict, the client settled the chunk by it, and a replica of the volume decided it so, by what stands on
-- their disks.
pub record VerdictsAreTold : Type 0 where
  pub settled : (cell : Cell) → IsKept cell → (client volume server : ℕ) (window : Option ℕ) (number : ℕ) (verdict : Verdict) (outside : List (List ℕ)) (new : Cell) → Happens cell (drains client volume server window) (Drained number (Decided verdict)) outside new
      → In (record { number = number; verdict = verdict }) (settlements_of (deeds_of volume (new.clients client).disk.history))
  pub decided : (cell new : Cell) → IsKept cell → IsKept new → (client volume server : ℕ) (window : Option ℕ) (number : ℕ) (verdict : Verdict) (outside : List (List ℕ)) → Happens cell (drains client volume server window) (Drained number (Decided verdict)) outside new
      → (joins : Joins) → IsDecided (found_on (shelves_of new) joins) volume client number verdict

-- In whatever cell, a drain that is answered by a verdict leaves no chunk of the client's log frozen.
abbrev pub VerdictsThaw : Type 0
VerdictsThaw =
    (cell : Cell) (client volume server : ℕ) (window : Option ℕ) (number : ℕ) (verdict : Verdict) (outside : List (List ℕ)) (new : Cell) (c : ClientState)
    → Happens cell (line.Task (task.Drain client volume server window)) (Drained number (Decided verdict)) outside new
    → (state_of new).clients client ≡ Some c → (log_of (c.volumes volume)).frozen ≡ None
