-- In which order a line is refused.
use Rattle.std.specs.Prelude.{◌≡◌, ◌⊎◌, ℕ, true, false, List, [], ◌∷◌, ◌++◌, Option, Some, None, Ok, Err}
use Rattle.coda_fid.specs.declared.op.Op.{Op}
use Rattle.coda_tree.specs.Volume.{Nodes}
use Rattle.coda_script.specs.declared.line.Strength.TheVariants.{Down}
use Rattle.coda_script.specs.declared.line.Task.{Task}
use Rattle.coda_script.specs.declared.line.Task.TheVariants as task
use Rattle.coda_script.specs.declared.line.Line.{Line}
use Rattle.coda_script.specs.declared.line.Line.TheVariants as line
use Rattle.coda_script.specs.declared.reply.Reply.{Reply}
use Rattle.coda_venus.specs.Ask.{Asked, too_big}
use Rattle.coda_cell.specs.State.{ClientState, CellState, Event}
use Rattle.coda_cell.specs.Accepting.{sight_of}
use Rattle.coda_venus.specs.Accepting.{accept}
use Rattle.coda_cell.specs.Asking.{look_ups, behind_fetches, operate}
use Rattle.coda_cell.specs.Checks.{ask_checks, first_refusal}
use Rattle.coda_cell.specs.Refusing.{client_refused_as, refusal}
use Rattle.coda_letters.specs.Sent.{Sent, client_of, server_of, sent_at}
use Rattle.coda_cell.specs.Steps.{Named, client_named, volume_named, server_named, holder_named, on_volume, on_holder, Does}
use Rattle.coda_venus.specs.declared.refused.Refused.{Refused as ClientRefused}
use Rattle.coda_cell.specs.Refused.{TooBig, LogFull, LinkDown, NoSuchActor, NoMessage}

-- the actors that a task names, from left to right
abbrev pub named_in : CellState → Task → List Named
named_in s (task.Create client volume path mode owner) = on_volume s client volume
named_in s (task.Mkdir client volume path mode owner) = on_volume s client volume
named_in s (task.Symlink client volume path target) = on_volume s client volume
named_in s (task.Store client volume path content) = on_volume s client volume
named_in s (task.Setattr client volume path attrs) = on_volume s client volume
named_in s (task.Remove client volume path) = on_volume s client volume
named_in s (task.Rmdir client volume path) = on_volume s client volume
named_in s (task.Rename client volume from to) = on_volume s client volume
named_in s (task.Read client volume path) = on_volume s client volume
named_in s (task.List client volume path) = on_volume s client volume
named_in s (task.Drain client volume server window) = client_named s client ∷ volume_named s volume ∷ holder_named s server volume ∷ []
named_in s (task.Hardlink client volume from to) = []
named_in s (task.Refresh client volume server) = []
named_in s (task.Giveup client volume) = []

-- the actors that a line names, from left to right, but those that it makes
abbrev pub named_by : CellState → Line → List Named
named_by s (line.Link client server strength) = client_named s client ∷ server_named s server ∷ []
named_by s (line.Task t) = named_in s t
named_by s (line.ShowVolume server volume) = holder_named s server volume ∷ []
named_by s (line.ShowLog client volume) = on_volume s client volume
named_by s (line.ShowState client volume) = on_volume s client volume
named_by s (line.Send client volume server window) = on_holder s client volume server
named_by s _ = []

-- all of them are there
abbrev pub AreThere : List Named → Type 0
AreThere [] = Unit {0}
AreThere (n ∷ ns) = (n.there ≡ true) × AreThere ns

-- In which order a line is refused, whatever else is wrong with it.
pub record RefusalsComeInOrder : Type 0 where
  -- first for the leftmost actor that isn't there, and then nothing happens
  pub missing : (s : CellState) (said : Line) (reply : Reply) (events : List Event) (front back : List Named) (n : Named)
      → Does s said reply events → named_by s said ≡ front ++ n ∷ back → AreThere front → n.there ≡ false → (reply ≡ refusal (NoSuchActor n.number)) × (events ≡ [])
  -- then, where a log is to be sent, for a link that is down
  pub unreached : (s : CellState) (client volume server : ℕ) (window : Option ℕ) (reply : Reply) (events : List Event)
      → Does s (line.Task (task.Drain client volume server window)) reply events → AreThere (named_in s (task.Drain client volume server window)) → s.links client server ≡ Down
      → (reply ≡ refusal LinkDown) × (events ≡ [])
  pub unsent : (s : CellState) (client volume server : ℕ) (window : Option ℕ) (reply : Reply) (events : List Event)
      → Does s (line.Send client volume server window) reply events → AreThere (on_holder s client volume server) → s.links client server ≡ Down → (reply ≡ refusal LinkDown) × (events ≡ [])
  -- of a letter first that there is none, and then, where it is to come, for the link between its ends
  pub missed : (s : CellState) (message : ℕ) (reply : Reply) (events : List Event) → sent_at message s.waiting ≡ None
      → Does s (line.Deliver message) reply events ⊎ Does s (line.Lose message) reply events → (reply ≡ refusal (NoMessage message)) × (events ≡ [])
  pub stopped : (s : CellState) (message : ℕ) (sent : Sent) (reply : Reply) (events : List Event) → sent_at message s.waiting ≡ Some sent → s.links (client_of sent) (server_of sent) ≡ Down
      → Does s (line.Deliver message) reply events → (reply ≡ refusal LinkDown) × (events ≡ [])
  -- an operation is refused first for content that is too long, then for the first check that refuses
  pub large : (offers : Option Nodes) (c : ClientState) (time volume : ℕ) (ask : Asked) (length : ℕ) → too_big ask ≡ Some length
      → (operate offers c time volume ask).said ≡ Err (TooBig length)
  pub checked : (offers : Option Nodes) (c : ClientState) (time volume : ℕ) (ask : Asked) (why : ClientRefused) → too_big ask ≡ None
      → first_refusal (sight_of (behind_fetches c (look_ups offers c.held volume ask)) volume) volume (ask_checks ask) ≡ Some why
      → (operate offers c time volume ask).said ≡ Err (client_refused_as why)
  -- and for a log that is full only where acceptance has nothing against it
  pub full : (offers : Option Nodes) (c : ClientState) (time volume : ℕ) (ask : Asked) → (operate offers c time volume ask).said ≡ Err LogFull
      → (op : Op) × (accept (sight_of (behind_fetches c (look_ups offers c.held volume ask)) volume) volume ask ≡ Ok op)
