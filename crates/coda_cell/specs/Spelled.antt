-- What messages can say: each number, name and version in the range that its format has.
use Rattle.std.specs.Prelude.{◌≡◌, ◌≤◌, ℕ, Some, List}
use Rattle.std.specs.FinMap as map
use Rattle.coda_fid.specs.declared.op.Record.{Record}
use Rattle.coda_cancel.specs.Cancel.{fold}
use Rattle.coda_record.specs.Form.{four}
use Rattle.coda_record.specs.Parts.{u64}
use Rattle.coda_record.specs.Spelling.{HasSpelling}
use Rattle.coda_record.specs.Table as table
use Rattle.coda_spelling.specs.Spelled.{IsSpelled, AreSpelled}
use Rattle.coda_script.specs.declared.line.Line.{Line}
use Rattle.coda_script.specs.declared.reply.Reply.{Reply}
use Rattle.coda_script.specs.Ranges.{InRange}
use Rattle.coda_plain.specs.Histories.{In}
use Rattle.coda_plain.specs.Deeds.{course_of, full_of, span_of}
use Rattle.coda_plain.specs.Decisions.{Kept, kept_of, last_of}
use Rattle.coda_plain.specs.Cell.{PlainCell}
use Rattle.coda_plain.specs.Moves.{done_on}
use Rattle.coda_cell.specs.State.{Event}
use Rattle.coda_cell.specs.Made.{MadeCell, nothing_made, client_of, state_of, grown_all}
use Rattle.coda_cell.specs.Steps.{Does}
use Rattle.coda_cell.specs.Runs.{IsKept}

-- what a replica has: its nodes, as many as a volume may have at most, and the verdict on the last chunk of each client
pub record IsReplicaSpelled (kept : Kept) : Type 0 where
  pub nodes : AreSpelled kept.nodes
  pub room : map.len kept.nodes ≤ 100000
  pub verdicts : (client : ℕ) → HasSpelling table.verdict (kept.lasts client).verdict

-- what the actors of a cell did and have: each operation that a client accepted, how many chunks it froze, what it holds, and what
-- replicas have
pub record DidSpelled (cell : PlainCell) : Type 0 where
  pub operations : (client volume : ℕ) (rec : Record) → In rec (full_of (done_on cell client volume)) → IsSpelled rec
  pub chunks : (client volume : ℕ) → HasSpelling table.count (course_of (done_on cell client volume)).chunks
  pub held : (client blocks : ℕ) → AreSpelled (client_of client (cell.clients client).history blocks).held.nodes
  pub replicas : (server volume : ℕ) → IsReplicaSpelled (kept_of volume (cell.replicas server volume).history)

-- What a cell has that messages name can be spelled: its time, the numbers of clients, volumes and servers, and what its actors did.
pub record CanBeSpelled (cell : MadeCell) : Type 0 where
  pub clock : HasSpelling u64 cell.clock
  pub clients : (client blocks : ℕ) → cell.sizes client ≡ Some blocks → HasSpelling table.client client
  pub volumes : (volume server : ℕ) → cell.homes volume ≡ Some server → HasSpelling table.volume volume × HasSpelling table.server server
  pub did : DidSpelled cell.acted

-- In a cell that is kept, each line whose numbers are in their ranges leaves what can be spelled.
abbrev pub LinesKeepSpellings : Type 0
LinesKeepSpellings =
    (old : MadeCell) (said : Line) (reply : Reply) (events : List Event) → IsKept old → CanBeSpelled old → InRange said → Does (state_of old) said reply events → CanBeSpelled (grown_all old events)

-- What holds of spellings: in the first cell all that is there can be spelled, and each line keeps that. So the records that
-- cancellation leaves of a chunk's operations can be spelled, and the number and the verdict that a replica answers a chunk with.
pub record MessagesCanBeSpelled : Type 0 where
  pub first : CanBeSpelled nothing_made
  pub lines : LinesKeepSpellings
  pub records : (cell : MadeCell) (client volume number : ℕ) → IsKept cell → CanBeSpelled cell → HasSpelling (table.records four) (fold (span_of (done_on cell.acted client volume) number))
  pub numbers : (cell : MadeCell) (server volume client : ℕ) → IsKept cell → CanBeSpelled cell → HasSpelling table.count (last_of volume (cell.acted.replicas server volume).history client).number
  pub verdicts : (cell : MadeCell) (server volume client : ℕ) → CanBeSpelled cell → HasSpelling table.verdict (last_of volume (cell.acted.replicas server volume).history client).verdict
