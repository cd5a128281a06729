-- That each task of a client has an outcome, one alone, and fetches few objects.
use Rattle.std.specs.Prelude.{◌≡◌, ℕ, ◌≤◌, List, length}
use Rattle.coda_tree.specs.Bindings.{Name}
use Rattle.coda_script.specs.declared.line.Line.TheVariants as line
use Rattle.coda_script.specs.declared.line.Task.{Task}
use Rattle.coda_script.specs.declared.line.Task.TheVariants as task
use Rattle.coda_script.specs.declared.reply.Reply.{Reply}
use Rattle.coda_venus.specs.Ask.{Asked}
use Rattle.coda_cell.specs.Made.{MadeCell, state_of}
use Rattle.coda_cell.specs.State.{CellState, Event}
use Rattle.coda_rounds.specs.Laws.{fetched_in}
use Rattle.coda_lines.specs.Lines.{operation_on, read_on, list_on, ByRounds, Serves}
use Rattle.coda_lines.specs.Working.{IsWorking}

-- a task is a client's call: an operation, a read or a listing
abbrev pub IsCall : Task → Type 0
IsCall (task.Drain client volume server window) = ⊥
IsCall (task.Hardlink client volume from to) = ⊥
IsCall (task.Refresh client volume server) = ⊥
IsCall (task.Giveup client volume) = ⊥
IsCall t = Unit {0}

-- In a cell that works each operation, read and listing has an outcome, a reply and what happens: a refusal where its
-- client or its volume isn't there, and else by the rounds of the call. In no cell has it two. And in a cell that works
-- it fetches at most as many objects as the client's cache has blocks.
pub record TasksHaveOutcomes : Type 0 where
  pub some : (cell : MadeCell) (t : Task) → IsWorking cell → IsCall t
      → (reply : Reply) × (events : List Event) × Serves (state_of cell) (line.Task t) reply events
  pub one : (s : CellState) (t : Task) (reply other : Reply) (events others : List Event) → IsCall t
      → Serves s (line.Task t) reply events → Serves s (line.Task t) other others
      → (reply ≡ other) × (events ≡ others)
  pub operated : (cell : MadeCell) (number volume : ℕ) (ask : Asked) (reply : Reply) (events : List Event)
      → IsWorking cell
      → (did : ByRounds (state_of cell) number (operation_on (state_of cell) number volume ask) reply events)
      → length (fetched_in did.steps) ≤ did.client.blocks
  pub read : (cell : MadeCell) (number volume : ℕ) (path : List Name) (reply : Reply) (events : List Event)
      → IsWorking cell
      → (did : ByRounds (state_of cell) number (read_on (state_of cell) number volume path) reply events)
      → length (fetched_in did.steps) ≤ did.client.blocks
  pub listed : (cell : MadeCell) (number volume : ℕ) (path : List Name) (reply : Reply) (events : List Event)
      → IsWorking cell
      → (did : ByRounds (state_of cell) number (list_on (state_of cell) number volume path) reply events)
      → length (fetched_in did.steps) ≤ did.client.blocks
