-- What a line does in a cell whose clients serve of their caches what they may serve, and fetch the rest in rounds.
use Rattle.std.specs.Prelude.{◌≡◌, ℕ, Bool, Option, Some, None, List, [], ◌∷◌, ◌++◌}
use Rattle.std.specs.Option.{unwrap_or}
use Rattle.coda_fid.specs.declared.fid.Fid.{Fid}
use Rattle.coda_fid.specs.declared.op.Record.{Record}
use Rattle.coda_fid.specs.Op.{fids_of}
use Rattle.coda_tree.specs.Bindings.{Name}
use Rattle.coda_tree.specs.declared.node.NodeKind.{NodeKind}
use Rattle.coda_certify.specs.declared.verdict.Verdict.TheVariants.{Applied}
use Rattle.coda_cache.specs.Steps.{new_node}
use Rattle.coda_script.specs.declared.line.Task.{Task}
use Rattle.coda_script.specs.declared.line.Task.TheVariants as task
use Rattle.coda_script.specs.declared.line.Line.{Line}
use Rattle.coda_script.specs.declared.line.Line.TheVariants as line
use Rattle.coda_script.specs.declared.refusal.Refusal.TheVariants.{CacheFull}
use Rattle.coda_script.specs.declared.reply.Arg.TheVariants.{Number}
use Rattle.coda_script.specs.declared.reply.Reply.{Reply}
use Rattle.coda_script.specs.declared.reply.Reply.TheVariants.{Done, Refused}
use Rattle.coda_plain.specs.Cell.{ClientEntry, Fetched, Did, Dropping}
use Rattle.coda_plain.specs.Deeds.{Operated, Settled}
use Rattle.coda_plain.specs.Moves.{AtClient}
use Rattle.coda_venus.specs.Ask.{Asked, Create, Mkdir, Symlink, Store, Setattr, Remove, Rmdir, Rename, object_of}
use Rattle.coda_venus.specs.Keeping.{readable, listable}
use Rattle.coda_venus.specs.declared.seen.Seen.{Seen}
use Rattle.coda_venus.specs.Rounds.{RefusalCause, Because, NoRoom, RoundStep, Looked, Installed, Turned, Performed}
use Rattle.coda_venus.specs.Rounds.{ClientCall, Rounds, operating, showing}
use Rattle.coda_cell.specs.Asking.{Said, read_in, list_in}
use Rattle.coda_cell.specs.Refusing.{refusal, client_refused_as}
use Rattle.coda_cell.specs.State.{ClientState, CellState, Event, Entered, Used, Kept, Stale, at_client, after_all}
use Rattle.coda_cell.specs.State.{log_of}
use Rattle.coda_cell.specs.Steps.{Doing, Naming, on_volume, bytes_of, reply_to, DoesTask, Does}
use Rattle.coda_lines.specs.Clients.{serving_client, sources_of, emulates}

-- ---- calls, with replies as their answers

-- a call that isn't carried out is refused as the client refuses it, or for want of room in its cache
abbrev pub refused_for : RefusalCause → Reply
refused_for (Because why) = refusal (client_refused_as why)
refused_for (NoRoom pinned needed size) = Refused CacheFull (Number pinned ∷ Number needed ∷ Number size ∷ [])

-- an operation is answered by its number and its object
abbrev pub done_as : Record → Reply
done_as rec = Done rec.number (object_of rec.op)

-- an object is shown by its node, with whether it was fetched in this line
abbrev pub shown_as : (Bool → NodeKind → Said) → Bool → Seen → Reply
shown_as show fetched seen = reply_to (show fetched seen.node.kind)

-- the calls of a client: to operate on a volume, to read and to list
abbrev pub operation_on : CellState → ℕ → ℕ → Asked → ClientState → ClientCall Reply
operation_on s number volume ask c = operating (emulates s number c volume) refused_for done_as s.clock volume ask

abbrev pub read_on : CellState → ℕ → ℕ → List Name → ClientState → ClientCall Reply
read_on s number volume path c =
    showing (emulates s number c volume) refused_for (shown_as read_in) readable volume path

abbrev pub list_on : CellState → ℕ → ℕ → List Name → ClientState → ClientCall Reply
list_on s number volume path c =
    showing (emulates s number c volume) refused_for (shown_as list_in) listable volume path

-- ---- what happens in a cell by what a call does

-- an entry for which these went
abbrev pub making_room : List Fid → ClientEntry → ClientEntry
making_room [] entry = entry
making_room (fid ∷ gone) entry = Dropping (fid ∷ gone) entry

-- a client's copies of these aren't valid any more
abbrev pub stale : ℕ → List Fid → List Event
stale number [] = []
stale number (fid ∷ fids) = Stale number (fid ∷ fids) ∷ []

-- a client looked these up, in this order
abbrev pub looks_up : ℕ → List Fid → List Event
looks_up number [] = []
looks_up number (fid ∷ fids) = Used number (fid ∷ fids) ∷ []

-- an object that an operation makes is used
abbrev pub used_new : ℕ → Option (Fid × Fid) → List Event
used_new number None = []
used_new number (Some made) = Used number (made.1 ∷ []) ∷ []

-- What happens by a step of a client's call: the entry of its history, where the step has one, and what is beside it.
abbrev pub events_of_step : ℕ → RoundStep → List Event
events_of_step number (Looked fids) = looks_up number fids
events_of_step number (Installed gone fid parent node server) =
    at_client number (making_room gone (Fetched fid parent node))
    ∷ (stale number gone ++ Kept number server fid ∷ Used number (fid ∷ []) ∷ [])
events_of_step number (Turned fid server) = []
events_of_step number (Performed gone volume rec) =
    at_client number (making_room gone (Did volume (Operated rec)))
    ∷ (stale number gone ++ used_new number (new_node rec.op))

abbrev pub events_of_steps : ℕ → List RoundStep → List Event
events_of_steps number [] = []
events_of_steps number (step ∷ steps) = events_of_step number step ++ events_of_steps number steps

-- A client makes a call over what it serves, and fetches in rounds what it needs.
pub record ByRounds (s : CellState) (number : ℕ) (call : ClientState → ClientCall Reply) (reply : Reply)
    (events : List Event) : Type 0 where
  pub client : ClientState
  pub there : s.clients number ≡ Some client
  pub steps : List RoundStep
  pub rounds : Rounds (sources_of s number) (call client) [] (serving_client s number client) steps reply
  pub happened : events ≡ events_of_steps number steps

-- a client that is there makes a call on a volume that is there
abbrev pub Calls : CellState → ℕ → ℕ → (ClientState → ClientCall Reply) → Doing
Calls s number volume call = Naming (on_volume s number volume) (ByRounds s number call)

-- and it is asked for an operation there
abbrev pub AsksFor : CellState → ℕ → ℕ → Asked → Doing
AsksFor s number volume ask = Calls s number volume (operation_on s number volume ask)

-- ---- chunks that were applied

-- the objects that records mention
abbrev pub mentioned_by : List Record → List Fid
mentioned_by [] = []
mentioned_by (rec ∷ recs) = fids_of rec.op ++ mentioned_by recs

-- the records of the chunk of a volume that a client has frozen
abbrev pub chunk_of : Option ClientState → ℕ → List Record
chunk_of (Some c) volume = (log_of (c.volumes volume)).chunk
chunk_of None volume = []

-- where a chunk was applied, the client's copies of what it mentions aren't valid any more: the server has those
-- objects with other versions
abbrev pub stale_by : CellState → Event → List Event
stale_by s (Entered (AtClient number (Did volume (Settled chunk Applied)))) =
    stale number (mentioned_by (chunk_of (s.clients number) volume))
stale_by s event = []

-- what happens, with the copies that are not valid any more by it
abbrev pub with_stale : CellState → List Event → List Event
with_stale s [] = []
with_stale s (event ∷ events) = event ∷ (stale_by s event ++ with_stale (after_all s (event ∷ stale_by s event)) events)

-- what a line does by itself, with the copies that are not valid any more by it
abbrev pub Staling : CellState → Doing → Doing
Staling s own reply events = (plain : List Event) × own reply plain × (events ≡ with_stale s plain)

-- ---- what a line does

-- What a task does. A new file has mode 0644 and a new directory mode 0755 where no other is given, and the owner is
-- then 0.
abbrev pub ServesTask : CellState → Task → Doing
ServesTask s (task.Create client volume path mode owner) =
    AsksFor s client volume (Create path (unwrap_or mode 420) (unwrap_or owner 0))
ServesTask s (task.Mkdir client volume path mode owner) =
    AsksFor s client volume (Mkdir path (unwrap_or mode 493) (unwrap_or owner 0))
ServesTask s (task.Symlink client volume path target) = AsksFor s client volume (Symlink path target)
ServesTask s (task.Store client volume path content) = AsksFor s client volume (Store path (bytes_of content))
ServesTask s (task.Setattr client volume path attrs) = AsksFor s client volume (Setattr path attrs)
ServesTask s (task.Remove client volume path) = AsksFor s client volume (Remove path)
ServesTask s (task.Rmdir client volume path) = AsksFor s client volume (Rmdir path)
ServesTask s (task.Rename client volume from to) = AsksFor s client volume (Rename from to)
ServesTask s (task.Read client volume path) = Calls s client volume (read_on s client volume path)
ServesTask s (task.List client volume path) = Calls s client volume (list_on s client volume path)
ServesTask s other = Staling s (DoesTask s other)

-- In a state, a line that is built has this reply, and this happens: a client's task over what the client serves, and
-- any other line as it does by itself.
abbrev pub Serves : CellState → Line → Doing
Serves s (line.Task t) = ServesTask s t
Serves s other = Staling s (Does s other)
