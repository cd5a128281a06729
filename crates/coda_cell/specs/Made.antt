-- A cell by what was made in it and by the histories of its actors. All else is computed from these.
use Rattle.std.specs.Prelude.{ℕ, ◌+◌, length, List, [], ◌∷◌, ◌++◌, Option, Some, None}
use Rattle.std.specs.Option.{option_map}
use Rattle.coda_fid.specs.declared.fid.Fid.{Fid}
use Rattle.coda_script.specs.declared.line.Strength.{Strength}
use Rattle.coda_script.specs.declared.line.Strength.TheVariants.{Down}
use Rattle.coda_certify.specs.declared.verdict.Verdict.TheVariants as verdict
use Rattle.coda_record.specs.declared.answer.Answer.{Answer}
use Rattle.coda_record.specs.declared.answer.Answer.TheVariants as answer
use Rattle.coda_letters.specs.Sent.{Sent, ChunkSent, AnswerSent, BreakSent, Waiting, without}
use Rattle.coda_plain.specs.Decisions.{ReplicaEntry}
use Rattle.coda_plain.specs.Cell.{ClientEntry, Letter, ChunkSent as PlainChunk, AnswerSent as PlainAnswer, BreakSent as PlainBreak, Answer as PlainReply, Ruled, Behind, Old, PlainCell, empty_cell}
use Rattle.coda_plain.specs.Moves.{Move, Does, Posts, Loses, after as after_move}
use Rattle.coda_cell.specs.State.{put, later, linked, ClientState, new_client, client_after_all, ReplicaState, new_replica, replica_after_all, CellState, Event, VolumeMade, ClientMade, Ticked, LinkSet, Entered, Posted, Lost, Used, Kept, Stale, but_of, with_copy, cut_by, used_then}

-- a valid copy: the server that gave it, and how many entries the server's history of the volume had then
pub record Copy : Type 0 where
  pub server : ℕ
  pub position : ℕ

-- the clock, the servers of the volumes in the order of making, the server of each volume and the blocks of each client once it was
-- made, the links, what waits in letters, and the histories of clients and replicas with how many letters were posted; and beside these the
-- valid copies of each client, and the objects in the order in which it used them
pub record MadeCell : Type 0 where
  pub clock : ℕ
  pub servers : List ℕ
  pub homes : ℕ → Option ℕ
  pub sizes : ℕ → Option ℕ
  pub links : ℕ → ℕ → Strength
  pub waiting : Waiting
  pub acted : PlainCell
  pub copies : ℕ → Fid → Option Copy
  pub uses : ℕ → List Fid

-- a cell in which nothing was made
abbrev pub nothing_made : MadeCell
nothing_made = record { clock = 0; servers = []; homes = λ volume. None; sizes = λ client. None; links = λ client server. Down; waiting = []; acted = empty_cell; copies = λ client fid. None; uses = λ client. [] }

-- what the history of a client leaves
abbrev pub client_of : ℕ → List ClientEntry → ℕ → ClientState
client_of number history blocks = client_after_all (new_client number blocks) history

-- what the history of a replica leaves
abbrev pub replica_of : (ℕ → List ReplicaEntry) → ℕ → ℕ → ReplicaState
replica_of histories volume server = replica_after_all (new_replica server volume) (histories server)

-- what the histories of a cell leave
abbrev pub state_of : MadeCell → CellState
state_of cell = record {
  clock = cell.clock;
  servers = cell.servers;
  replicas = λ volume. option_map (replica_of (λ server. (cell.acted.replicas server volume).history) volume) (cell.homes volume);
  clients = λ client. option_map (client_of client (cell.acted.clients client).history) (cell.sizes client);
  links = cell.links;
  waiting = cell.waiting;
  posted = cell.acted.posted;
  copies = λ client fid. option_map (λ (copy : Copy). copy.server) (cell.copies client fid);
  uses = cell.uses;
}

-- an answer by its verdict, a chunk by its number alone, and a break by its objects, as histories have them
abbrev pub plain_answer : Answer → PlainReply
plain_answer answer.Applied = Ruled verdict.Applied
plain_answer (answer.Conflict number why) = Ruled (verdict.Conflict number why)
plain_answer (answer.Behind last) = Behind last
plain_answer (answer.Old last) = Old last

abbrev pub plain_letter : Sent → Letter
plain_letter (ChunkSent client server volume number span) = PlainChunk client server volume number
plain_letter (AnswerSent server client volume number answer) = PlainAnswer server client volume number (plain_answer answer)
plain_letter (BreakSent server client volume fids) = PlainBreak server client fids

-- a cell with what an event adds
abbrev pub grown : MadeCell → Event → MadeCell
grown cell (VolumeMade volume server) = record cell { servers = cell.servers ++ server ∷ []; homes = put cell.homes volume (Some server) }
grown cell (ClientMade client blocks) = record cell { sizes = put cell.sizes client (Some blocks) }
grown cell (Ticked seconds) = record cell { clock = later cell.clock seconds }
grown cell (LinkSet client server strength) = record cell { links = linked cell.links client server strength; copies = cut_by (λ (copy : Copy). copy.server) strength cell.copies client server }
grown cell (Entered append) = record cell { acted = after_move cell.acted (Does append) }
grown cell (Posted sent) = record cell { waiting = cell.waiting ++ (cell.acted.posted + 1, sent) ∷ []; acted = after_move cell.acted (Posts (plain_letter sent)) }
grown cell (Lost message) = record cell { waiting = without message cell.waiting; acted = after_move cell.acted (Loses message) }
grown cell (Used client fids) = record cell { uses = put cell.uses client (used_then (cell.uses client) fids) }
grown cell (Kept client server fid) = record cell { copies = with_copy cell.copies client fid (record { server = server; position = length (cell.acted.replicas server fid.volume).history }) }
grown cell (Stale client fids) = record cell { copies = but_of cell.copies client fids }

-- a cell with what events add in order
abbrev pub grown_all : MadeCell → List Event → MadeCell
grown_all cell [] = cell
grown_all cell (event ∷ events) = grown_all (grown cell event) events

-- what of events happened to the actors
abbrev pub move_of : Event → List Move
move_of (VolumeMade volume server) = []
move_of (ClientMade client blocks) = []
move_of (Ticked seconds) = []
move_of (LinkSet client server strength) = []
move_of (Entered append) = Does append ∷ []
move_of (Posted sent) = Posts (plain_letter sent) ∷ []
move_of (Lost message) = Loses message ∷ []
move_of (Used client fids) = []
move_of (Kept client server fid) = []
move_of (Stale client fids) = []

abbrev pub moves_of : List Event → List Move
moves_of [] = []
moves_of (event ∷ events) = move_of event ++ moves_of events
