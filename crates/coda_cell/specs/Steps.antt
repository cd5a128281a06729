-- What a line does in a cell: a relation of the state before, the line, its reply, and what happens.
use Rattle.std.specs.Prelude.{◌≡◌, ℕ, Bool, true, false, ◌==◌, nat_le, is_some, if◌then◌else◌, List, [], ◌∷◌, length, map, replicate, Option, Some, None, Ok, Err}
use Rattle.std.specs.Option.{option_map_or, option_and_then, unwrap_or}
use Rattle.std.specs.List.{list_any, filter}
use Rattle.coda_fid.specs.declared.fid.Fid.{Fid}
use Rattle.coda_tree.specs.Volume.{Nodes}
use Rattle.coda_script.specs.declared.line.Strength.{Strength}
use Rattle.coda_script.specs.declared.line.Strength.TheVariants.{Strong, Weak, Down}
use Rattle.coda_script.specs.declared.line.Content.{Content}
use Rattle.coda_script.specs.declared.line.Content.TheVariants as content
use Rattle.coda_script.specs.declared.line.Task.{Task}
use Rattle.coda_script.specs.declared.line.Task.TheVariants as task
use Rattle.coda_script.specs.declared.line.Line.{Line}
use Rattle.coda_script.specs.declared.line.Line.TheVariants as line
use Rattle.coda_script.specs.declared.reply.Reply.{Reply}
use Rattle.coda_script.specs.declared.reply.Reply.TheVariants.{Opened, Accepted, Broken, Lost, ShowVolume, ShowLog, State}
use Rattle.coda_venus.specs.Ask.{Asked, Create, Mkdir, Symlink, Store, Setattr, Remove, Rmdir, Rename}
use Rattle.coda_fid.specs.declared.op.Record.{Record}
use Rattle.coda_record.specs.declared.answer.Answer.{Answer as RecordAnswer}
use Rattle.coda_letters.specs.Sent.{Sent, ChunkSent, AnswerSent, BreakSent, client_of, server_of, is_lossy, sent_at}
use Rattle.coda_cell.specs.State.{ClientState, ReplicaState, CellState, Event, VolumeMade, ClientMade, Ticked, LinkSet, Lost as LetterLost, Stale, at_client, log_of}
use Rattle.coda_cell.specs.States.{state_over}
use Rattle.coda_cell.specs.Refusing.{refusal}
use Rattle.coda_cell.specs.Sending.{drain}
use Rattle.coda_cell.specs.Messages.{sends, chunk_comes, answer_comes}
use Rattle.coda_cell.specs.Asking.{Said, Answer, operate, read, list}
use Rattle.coda_cell.specs.Refused.{Refused}
use Rattle.coda_cell.specs.Refused.{NoSuchActor, AlreadyThere, CellFull, LinkDown, NoMessage}

-- ---- which lines are built

-- one server alone
abbrev pub is_alone : List ℕ → Bool
is_alone [] = false
is_alone (server ∷ []) = true
is_alone (server ∷ other ∷ servers) = false

abbrev pub is_built_task : Task → Bool
is_built_task (task.Hardlink client volume from to) = false
is_built_task (task.Refresh client volume server) = false
is_built_task (task.Giveup client volume) = false
is_built_task _ = true

-- the lines that have a meaning so far; of a volume or client no area may be given, since there are no disks
abbrev pub is_built : Line → Bool
is_built (line.Volume volume servers None) = is_alone servers
is_built (line.Client client blocks None) = true
is_built (line.Link client server strength) = true
is_built (line.Tick seconds) = true
is_built (line.Task t) = is_built_task t
is_built (line.ShowVolume server volume) = true
is_built (line.ShowLog client volume) = true
is_built (line.ShowState client volume) = true
is_built (line.Send client volume server window) = true
is_built (line.Deliver message) = true
is_built (line.Lose message) = true
is_built _ = false

-- ---- actors that a line names

-- an actor that a line names, and whether it is there
pub record Named : Type 0 where
  pub number : ℕ
  pub there : Bool

-- the client of this number, and whether it was made
abbrev pub client_named : CellState → ℕ → Named
client_named s client = record { number = client; there = is_some (s.clients client) }

-- the volume of this number likewise
abbrev pub volume_named : CellState → ℕ → Named
volume_named s volume = record { number = volume; there = is_some (s.replicas volume) }

-- the server of this number, and whether a volume was made there
abbrev pub server_named : CellState → ℕ → Named
server_named s server = record { number = server; there = list_any (λ other. other == server) s.servers }

-- the server of this number, and whether it holds the volume
abbrev pub holder_named : CellState → ℕ → ℕ → Named
holder_named s server volume = record { number = server; there = option_map_or (λ (r : ReplicaState). r.server == server) (s.replicas volume) false }

-- a client and a volume that a line names in this order
abbrev pub on_volume : CellState → ℕ → ℕ → List Named
on_volume s client volume = client_named s client ∷ volume_named s volume ∷ []

-- the refusal for the first actor that isn't there, from left to right
abbrev pub first_missing : List Named → Option Refused
first_missing [] = None
first_missing (n ∷ ns) = if n.there then first_missing ns else Some (NoSuchActor n.number)

-- why an actor can't be made: it is there, or as many are as there may be
abbrev pub no_room : Bool → Bool → Option Refused
no_room true full = Some AlreadyThere
no_room false true = Some CellFull
no_room false false = None

-- at most 64 volumes are made
abbrev pub no_volume : CellState → ℕ → Option Refused
no_volume s volume = no_room (is_some (s.replicas volume)) (nat_le 64 (length s.servers))

-- there are never more clients than numbers for them
abbrev pub no_client : CellState → ℕ → Option Refused
no_client s client = no_room (is_some (s.clients client)) false

-- what a line may answer, and what happens then
abbrev pub Doing : Type 1
Doing = Reply → List Event → Type 0

-- a refusal, by which nothing happens, or else the line's own
abbrev pub Unless : Option Refused → Doing → Doing
Unless (Some why) own reply events = (reply ≡ refusal why) × (events ≡ [])
Unless None own reply events = own reply events

-- where the actors that the line names are there
abbrev pub Naming : List Named → Doing → Doing
Naming names own = Unless (first_missing names) own

-- the reply to a line, by what is said
abbrev pub reply_to : Said → Reply
reply_to (Ok reply) = reply
reply_to (Err why) = refusal why

-- ---- what a client can fetch

-- the nodes of a replica, where its server can be reached
abbrev pub reached : Strength → ReplicaState → Option Nodes
reached Strong r = Some r.tree.nodes
reached Weak r = Some r.tree.nodes
reached Down r = None

-- what a client can fetch of a volume
abbrev pub offers_of : CellState → ℕ → ℕ → Option Nodes
offers_of s client volume = option_and_then (λ (r : ReplicaState). reached (s.links client r.server) r) (s.replicas volume)

-- ---- what a line does

-- a client answers
pub record ByClient (s : CellState) (number volume : ℕ) (ask : Option Nodes → ClientState → Answer) (reply : Reply) (events : List Event) : Type 0 where
  pub client : ClientState
  pub there : s.clients number ≡ Some client
  pub answered : reply ≡ reply_to (ask (offers_of s number volume) client).said
  pub happened : events ≡ map (at_client number) (ask (offers_of s number volume) client).entries

-- a client and the replica of a volume act together
pub record ByBoth (s : CellState) (number volume window : ℕ) (reply : Reply) (events : List Event) : Type 0 where
  pub client : ClientState
  pub replica : ReplicaState
  pub client_there : s.clients number ≡ Some client
  pub replica_there : s.replicas volume ≡ Some replica
  pub answered : reply ≡ reply_to (drain (s.links number replica.server) s.clock window number volume (client.volumes volume) replica).said
  pub happened : events ≡ (drain (s.links number replica.server) s.clock window number volume (client.volumes volume) replica).events

-- a client's state on a volume is shown: the one that the link to the server of the volume and the client's log settle in
pub record ShowsState (s : CellState) (number volume : ℕ) (reply : Reply) (events : List Event) : Type 0 where
  pub client : ClientState
  pub replica : ReplicaState
  pub client_there : s.clients number ≡ Some client
  pub replica_there : s.replicas volume ≡ Some replica
  pub answered : reply ≡ State (state_over (s.links number replica.server) (log_of (client.volumes volume)))
  pub happened : events ≡ []

-- a client sends a chunk of a volume to a server
pub record BySend (s : CellState) (number volume server window : ℕ) (reply : Reply) (events : List Event) : Type 0 where
  pub client : ClientState
  pub there : s.clients number ≡ Some client
  pub answered : reply ≡ reply_to (sends s number volume server window (client.volumes volume)).said
  pub happened : events ≡ (sends s number volume server window (client.volumes volume)).events

-- a client's chunk comes to the replica of its volume
pub record ByRuling (s : CellState) (number server volume chunk : ℕ) (span : List Record) (reply : Reply) (events : List Event) : Type 0 where
  pub replica : ReplicaState
  pub there : s.replicas volume ≡ Some replica
  pub answered : reply ≡ reply_to (chunk_comes s number server volume chunk span replica).said
  pub happened : events ≡ (chunk_comes s number server volume chunk span replica).events

-- the answer to a chunk comes to its client
pub record ByTaking (s : CellState) (number volume chunk : ℕ) (answer : RecordAnswer) (reply : Reply) (events : List Event) : Type 0 where
  pub client : ClientState
  pub there : s.clients number ≡ Some client
  pub answered : reply ≡ reply_to (answer_comes number volume chunk answer (client.volumes volume)).said
  pub happened : events ≡ (answer_comes number volume chunk answer (client.volumes volume)).events

-- a reply, and one thing that happens
abbrev pub Happens : Reply → Event → Doing
Happens said event reply events = (reply ≡ said) × (events ≡ event ∷ [])

-- a reply, and these happen in turn
abbrev pub HappenInTurn : Reply → List Event → Doing
HappenInTurn said happening reply events = (reply ≡ said) × (events ≡ happening)

-- a reply, and nothing happens
abbrev pub Says : Reply → Doing
Says said reply events = (reply ≡ said) × (events ≡ [])

-- nothing that is built
abbrev pub Nowhere : Doing
Nowhere reply events = ⊥

-- the bytes of content: a text as it is, or one byte so many times
abbrev pub bytes_of : Content → List ℕ
bytes_of (content.Text text) = text
bytes_of (content.Fill length byte) = replicate length byte

-- a client that is there is asked for an operation on a volume that is there
abbrev pub Operates : CellState → ℕ → ℕ → Asked → Doing
Operates s client volume ask = Naming (on_volume s client volume) (ByClient s client volume (λ offers c. operate offers c s.clock volume ask))

-- What a task does. A new file has mode 0644 and a new directory mode 0755 where no other is given, and the owner is then 0; a window
-- that isn't given is of 600 seconds.
abbrev pub DoesTask : CellState → Task → Doing
DoesTask s (task.Create client volume path mode owner) = Operates s client volume (Create path (unwrap_or mode 420) (unwrap_or owner 0))
DoesTask s (task.Mkdir client volume path mode owner) = Operates s client volume (Mkdir path (unwrap_or mode 493) (unwrap_or owner 0))
DoesTask s (task.Symlink client volume path target) = Operates s client volume (Symlink path target)
DoesTask s (task.Store client volume path content) = Operates s client volume (Store path (bytes_of content))
DoesTask s (task.Setattr client volume path attrs) = Operates s client volume (Setattr path attrs)
DoesTask s (task.Remove client volume path) = Operates s client volume (Remove path)
DoesTask s (task.Rmdir client volume path) = Operates s client volume (Rmdir path)
DoesTask s (task.Rename client volume from to) = Operates s client volume (Rename from to)
DoesTask s (task.Read client volume path) = Naming (on_volume s client volume) (ByClient s client volume (λ offers c. read offers c volume path))
DoesTask s (task.List client volume path) = Naming (on_volume s client volume) (ByClient s client volume (λ offers c. list offers c volume path))
DoesTask s (task.Drain client volume server window) =
    Naming (client_named s client ∷ volume_named s volume ∷ holder_named s server volume ∷ []) (ByBoth s client volume (unwrap_or window 600))
DoesTask s (task.Hardlink client volume from to) = Nowhere
DoesTask s (task.Refresh client volume server) = Nowhere
DoesTask s (task.Giveup client volume) = Nowhere

-- a client, a volume and the server that holds it, which a line names in this order, or a letter
abbrev pub on_holder : CellState → ℕ → ℕ → ℕ → List Named
on_holder s client volume server = client_named s client ∷ volume_named s volume ∷ holder_named s server volume ∷ []

-- how many of these objects a client has valid copies of
abbrev pub valid_copies : CellState → ℕ → List Fid → ℕ
valid_copies s client fids = length (filter (λ fid. is_some (s.copies client fid)) fids)

-- A letter comes to whom it was sent. By a break the client's copies of its objects aren't valid any more, and the reply counts those that were.
abbrev pub Comes : CellState → Sent → Doing
Comes s (ChunkSent client server volume number span) = Naming (on_holder s client volume server) (ByRuling s client server volume number span)
Comes s (AnswerSent server client volume number answer) = Naming (on_holder s client volume server) (ByTaking s client volume number answer)
Comes s (BreakSent server client volume fids) = Naming (on_holder s client volume server) (Happens (Broken (valid_copies s client fids)) (Stale client fids))

-- why a link carries nothing
abbrev pub link_down : Strength → Option Refused
link_down Strong = None
link_down Weak = None
link_down Down = Some LinkDown

-- A letter that waits is delivered where the link between its ends is up; it waits on, so it may be delivered again.
abbrev pub Delivers : CellState → ℕ → Option Sent → Doing
Delivers s message None = Unless (Some (NoMessage message)) Nowhere
Delivers s message (Some sent) = Unless (link_down (s.links (client_of sent) (server_of sent))) (Comes s sent)

-- what happens with a letter that is lost: with one that may not be lost for the limits, the link between its ends goes down
abbrev pub cut_with : Sent → List Event
cut_with sent = if is_lossy sent then [] else LinkSet (client_of sent) (server_of sent) Down ∷ []

-- a letter that waits is lost
abbrev pub Loses : ℕ → Option Sent → Doing
Loses message None = Unless (Some (NoMessage message)) Nowhere
Loses message (Some sent) = HappenInTurn (Lost message) (LetterLost message ∷ cut_with sent)

-- the server of a volume that is on one alone
abbrev pub alone : List ℕ → ℕ
alone [] = 0
alone (server ∷ servers) = server

-- In a state, a line that is built has this reply, and this happens.
abbrev pub Does : CellState → Line → Doing
Does s (line.Volume volume servers area) = Unless (no_volume s volume) (Happens (Opened (0 ∷ [])) (VolumeMade volume (alone servers)))
Does s (line.Client client blocks area) = Unless (no_client s client) (Happens (Opened (0 ∷ [])) (ClientMade client blocks))
Does s (line.Link client server strength) = Naming (client_named s client ∷ server_named s server ∷ []) (Happens Accepted (LinkSet client server strength))
Does s (line.Tick seconds) = Happens Accepted (Ticked seconds)
Does s (line.Task t) = DoesTask s t
Does s (line.ShowVolume server volume) = Naming (holder_named s server volume ∷ []) (Says (ShowVolume server volume))
Does s (line.ShowLog client volume) = Naming (on_volume s client volume) (Says (ShowLog client volume))
Does s (line.ShowState client volume) = Naming (on_volume s client volume) (ShowsState s client volume)
Does s (line.Send client volume server window) = Naming (on_holder s client volume server) (BySend s client volume server (unwrap_or window 600))
Does s (line.Deliver message) = Delivers s message (sent_at message s.waiting)
Does s (line.Lose message) = Loses message (sent_at message s.waiting)
Does s _ = Nowhere
