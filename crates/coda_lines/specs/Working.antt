-- What holds of such a cell between two lines, and what each line makes of it.
use Rattle.std.specs.Prelude.{◌≡◌, ◌≢◌, ℕ, true, Some, None, List, [], ◌∷◌, ◌++◌}
use Rattle.std.specs.FinMap as map
use Rattle.coda_fid.specs.declared.fid.Fid.{Fid}
use Rattle.coda_tree.specs.declared.node.Node.{Node}
use Rattle.coda_script.specs.declared.line.Strength.TheVariants.{Down}
use Rattle.coda_tree.specs.Bindings.{Name}
use Rattle.coda_tree.specs.Volume.{has}
use Rattle.coda_cml.specs.State.{IsLogOf}
use Rattle.coda_walk.specs.Going.{is_listed}
use Rattle.coda_script.specs.declared.line.Line.{Line}
use Rattle.coda_script.specs.declared.reply.Reply.{Reply}
use Rattle.coda_histories.specs.Forests.{IsForest}
use Rattle.coda_cell.specs.Held.{AreUnderDirs}
use Rattle.coda_cell.specs.Made.{MadeCell, nothing_made, client_of, state_of, grown_all}
use Rattle.coda_cell.specs.Runs.{IsKept, IsLeft, MakesNumbered}
use Rattle.coda_cell.specs.Laws.{IsClean}
use Rattle.coda_cell.specs.State.{ClientState, ReplicaState, CellState, Event, Entered, Used, Kept, Stale, log_of}
use Rattle.coda_plain.specs.Cell.{ClientEntry, Fetched, Did, Dropping}
use Rattle.coda_plain.specs.Moves.{AtClient}
use Rattle.coda_creations.specs.Kinds.{AreAsMade}
use Rattle.coda_rounds.specs.Orders.{serving_after_all}
use Rattle.coda_rounds.specs.Places.{ArePlaced}
use Rattle.coda_rounds.specs.Readiness.{IsAtWork}
use Rattle.coda_venus.specs.Ask.{Asked}
use Rattle.coda_lines.specs.Clients.{as_client, serving_client, sources_of}
use Rattle.coda_lines.specs.Lines.{operation_on, read_on, list_on, ByRounds, Serves}

-- the client of a cell, as its history leaves it
abbrev pub client_in : MadeCell → ℕ → ℕ → ClientState
client_in cell number blocks = client_of number (cell.acted.clients number).history blocks

-- a client that wasn't made has no valid copy, and used nothing
pub record IsUnused (cell : MadeCell) (client : ℕ) : Type 0 where
  pub copies : (fid : Fid) → cell.copies client fid ≡ None
  pub uses : cell.uses client ≡ []

-- each log of a client is that of what is pending on its volume: what is frozen stands in front, with numbers that rise
abbrev pub HaveRuns : ClientState → Type 0
HaveRuns c = (volume : ℕ) → IsLogOf (log_of (c.volumes volume)) (c.volumes volume).front (c.volumes volume).back

-- What holds of a cell between two lines: it is kept; objects are of the kind with which they were made; a client that
-- wasn't made has nothing beside its history; and of each client that was made each log is of what is pending, and the
-- client works over the servers that it can reach.
pub record IsWorking (cell : MadeCell) : Type 0 where
  pub kept : IsKept cell
  pub kinds : AreAsMade cell.acted
  pub unmade : (client : ℕ) → cell.sizes client ≡ None → IsUnused cell client
  pub runs : (number blocks : ℕ) → cell.sizes number ≡ Some blocks → HaveRuns (client_in cell number blocks)
  pub at_work : (number blocks : ℕ) → cell.sizes number ≡ Some blocks
      → IsAtWork (sources_of (state_of cell) number)
      (serving_client (state_of cell) number (client_in cell number blocks))

-- Nothing stops a line between an entry of a client and what is beside that: a line may stop where what is left of it
-- doesn't begin with anything that is beside an entry.
abbrev pub MayStop : List Event → Type 0
MayStop [] = Unit {0}
MayStop (Used client fids ∷ events) = ⊥
MayStop (Kept client server fid ∷ events) = ⊥
MayStop (Stale client fids ∷ events) = ⊥
MayStop (event ∷ events) = Unit {0}

-- What a client fetches is what the replica of the object's volume has then, whose server the client reaches; and where
-- it is cached already, no log of the client mentions it.
pub record IsFetchedFairly (cell : MadeCell) (number : ℕ) (fid : Fid) (node : Node) : Type 0 where
  pub replica : ReplicaState
  pub there : (state_of cell).replicas fid.volume ≡ Some replica
  pub has_it : map.get replica.tree.nodes fid ≡ Some node
  pub linked : cell.links number replica.server ≢ Down
  pub clean : (c : ClientState) → (state_of cell).clients number ≡ Some c → has c.held.nodes fid ≡ true → IsClean c fid

-- no log of a client mentions what the client drops to make room
abbrev pub DropsWhatIsClean : MadeCell → ℕ → List Fid → Type 0
DropsWhatIsClean cell number gone = (c : ClientState) (fid : Fid) → (state_of cell).clients number ≡ Some c
    → is_listed gone fid ≡ true → IsClean c fid

-- an entry of a client is fair: nothing goes from its cache, or is replaced there, that is yet to be sent
abbrev pub IsFairEntry : MadeCell → ℕ → ClientEntry → Type 0
IsFairEntry cell number (Fetched fid parent node) = IsFetchedFairly cell number fid node
IsFairEntry cell number (Did volume deed) = Unit {0}
IsFairEntry cell number (Dropping gone entry) = DropsWhatIsClean cell number gone × IsFairEntry cell number entry

-- an event is fair that is no entry of a client, or is such an entry
abbrev pub IsFair : MadeCell → Event → Type 0
IsFair cell (Entered (AtClient number entry)) = IsFairEntry cell number entry
IsFair cell event = Unit {0}

-- lines lead from one cell to another, each with some reply
abbrev pub ServedLinesLead : MadeCell → List Line → MadeCell → Type 0
ServedLinesLead old [] new = new ≡ old
ServedLinesLead old (said ∷ lines) new = (reply : Reply) × (events : List Event) × MakesNumbered said
    × Serves (state_of old) said reply events × ServedLinesLead (grown_all old events) lines new

-- The first cell works. In a cell that works each front of what a line does might happen, keeps the cell, and leaves
-- what its events say; and it works on behind each front at which the line may stop. So each cell works to which lines
-- lead from the first one. And all that clients enter is fair.
pub record LinesKeepCellsWorking : Type 0 where
  pub first : IsWorking nothing_made
  pub fronts : (old : MadeCell) (said : Line) (reply : Reply) (done rest : List Event) → IsWorking old
      → MakesNumbered said → Serves (state_of old) said reply (done ++ rest) → IsLeft old done
  pub stopped : (old : MadeCell) (said : Line) (reply : Reply) (done rest : List Event) → IsWorking old
      → MakesNumbered said → Serves (state_of old) said reply (done ++ rest) → MayStop rest
      → IsWorking (grown_all old done)
  pub reached : (lines : List Line) (cell : MadeCell) → ServedLinesLead nothing_made lines cell → IsWorking cell
  pub fair : (old : MadeCell) (said : Line) (reply : Reply) (done : List Event) (event : Event) (rest : List Event)
      → IsWorking old → MakesNumbered said → Serves (state_of old) said reply (done ++ event ∷ rest)
      → IsFair (grown_all old done) event

-- What a client has cached, in words of a file system: a forest; each parent a directory of the object's volume; each
-- object was used; and what a log made, and nothing took from where it is bound, is where it was made.
pub record IsCacheInOrder (s : CellState) (number : ℕ) (c : ClientState) : Type 0 where
  pub forest : IsForest c.held
  pub under : AreUnderDirs c.held
  pub used : (fid : Fid) → has c.held.nodes fid ≡ true → is_listed (s.uses number) fid ≡ true
  pub placed : ArePlaced (as_client c)

-- In each cell to which lines lead from the first one, what each client has cached is in order.
abbrev pub ReachedCachesAreInOrder : Type 0
ReachedCachesAreInOrder = (lines : List Line) (cell : MadeCell) (number : ℕ) (c : ClientState)
    → ServedLinesLead nothing_made lines cell → (state_of cell).clients number ≡ Some c
    → IsCacheInOrder (state_of cell) number c

-- A client that made a call is as the call's steps leave it, with its valid copies and with the objects in the order of
-- their use: so is what happens in the cell by the steps.
pub record CallsLeaveWhatStepsLeave : Type 0 where
  pub operated : (old : MadeCell) (number volume : ℕ) (ask : Asked) (reply : Reply) (events : List Event)
      (c : ClientState) → IsWorking old
      → (did : ByRounds (state_of old) number (operation_on (state_of old) number volume ask) reply events)
      → (state_of (grown_all old events)).clients number ≡ Some c
      → serving_client (state_of (grown_all old events)) number c
      ≡ serving_after_all (serving_client (state_of old) number did.client) did.steps
  pub read : (old : MadeCell) (number volume : ℕ) (path : List Name) (reply : Reply) (events : List Event)
      (c : ClientState) → IsWorking old
      → (did : ByRounds (state_of old) number (read_on (state_of old) number volume path) reply events)
      → (state_of (grown_all old events)).clients number ≡ Some c
      → serving_client (state_of (grown_all old events)) number c
      ≡ serving_after_all (serving_client (state_of old) number did.client) did.steps
  pub listed : (old : MadeCell) (number volume : ℕ) (path : List Name) (reply : Reply) (events : List Event)
      (c : ClientState) → IsWorking old
      → (did : ByRounds (state_of old) number (list_on (state_of old) number volume path) reply events)
      → (state_of (grown_all old events)).clients number ≡ Some c
      → serving_client (state_of (grown_all old events)) number c
      ≡ serving_after_all (serving_client (state_of old) number did.client) did.steps
