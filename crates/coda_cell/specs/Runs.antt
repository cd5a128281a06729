-- What holds of a cell between two lines, and what each line makes of it.
use Rattle.std.specs.Prelude.{◌≡◌, ◌≢◌, ◌<◌, ◌≤◌, ℕ, ◌+◌, true, Some, None, Ok, List, [], ◌∷◌, ◌++◌}
use Rattle.coda_certify.specs.Verdicts.{verdict_of}
use Rattle.coda_cml.specs.Segments.{segments_of}
use Rattle.coda_cml.specs.Chunks.{freeze_refusal}
use Rattle.coda_script.specs.declared.line.Line.{Line}
use Rattle.coda_script.specs.declared.line.Line.TheVariants as line
use Rattle.coda_script.specs.declared.reply.Answer.TheVariants as reply
use Rattle.coda_script.specs.declared.reply.Reply.{Reply}
use Rattle.coda_script.specs.declared.reply.Reply.TheVariants.{Drained}
use Rattle.coda_plain.specs.Decisions.{decision}
use Rattle.coda_plain.specs.Cell.{PlainCell}
use Rattle.coda_plain.specs.Moves.{Moved, done_on}
use Rattle.coda_plain.specs.Sound.{IsSound}
use Rattle.coda_cell.specs.Asking.{Said}
use Rattle.coda_cell.specs.Sending.{frozen_now, drained}
use Rattle.coda_cell.specs.State.{ClientVolume, ClientState, ReplicaState, Event, after_all}
use Rattle.coda_cell.specs.Kept.{IsHolding}
use Rattle.coda_plain.specs.Deeds.{span_of}
use Rattle.coda_letters.specs.Sent.{Sent, ChunkSent, AnswerSent, BreakSent, Waiting}
use Rattle.coda_cell.specs.Made.{MadeCell, plain_letter, nothing_made, client_of, state_of, grown_all, moves_of}
use Rattle.coda_cell.specs.Steps.{Does}
use Rattle.coda_cell.specs.Cells.{AreOrderly}

-- all actors are up
pub record AreUp (cell : PlainCell) : Type 0 where
  pub clients : (client : ℕ) → (cell.clients client).up ≡ true
  pub replicas : (server volume : ℕ) → (cell.replicas server volume).up ≡ true

-- a client that wasn't made did nothing, a server decided nothing on a volume that was made elsewhere or not at all, and no client has the
-- number 0
pub record AreMade (cell : MadeCell) : Type 0 where
  pub numbered : (client blocks : ℕ) → cell.sizes client ≡ Some blocks → client ≢ 0
  pub clients : (client : ℕ) → cell.sizes client ≡ None → (cell.acted.clients client).history ≡ []
  pub replicas : (server volume : ℕ) → cell.homes volume ≢ Some server → (cell.acted.replicas server volume).history ≡ []

-- the numbers of letters rise, above one and up to another
abbrev pub AreNumbered : ℕ → ℕ → Waiting → Type 0
AreNumbered before last [] = Unit {0}
AreNumbered before last (l ∷ waiting) = (before < l.0) × (l.0 ≤ last) × AreNumbered l.0 last waiting

-- what a letter says of a chunk are the operations that its client froze; and no letter is a break, since no server promises to tell of
-- changed objects
abbrev pub IsSaid : PlainCell → Sent → Type 0
IsSaid cell (ChunkSent client server volume number span) = span ≡ span_of (done_on cell client volume) number
IsSaid cell (AnswerSent server client volume number answer) = Unit {0}
IsSaid cell (BreakSent server client volume fids) = ⊥

-- each letter that waits is that of its number in the pool
abbrev pub ArePooled : PlainCell → Waiting → Type 0
ArePooled cell [] = Unit {0}
ArePooled cell (l ∷ waiting) = (cell.pool l.0 ≡ Some (plain_letter l.1)) × IsSaid cell l.1 × ArePooled cell waiting

-- the letters that wait are letters that were posted, and say what is so
pub record AreLettersOf (cell : MadeCell) : Type 0 where
  pub numbered : AreNumbered 0 cell.acted.posted cell.waiting
  pub pooled : ArePooled cell.acted cell.waiting

-- What holds of a cell between two lines: its histories are sound, all actors are up, those that weren't made did nothing, what each
-- client holds is in order, and so are the letters that wait. A chunk may be frozen, and its server may have decided it already.
pub record IsKept (cell : MadeCell) : Type 0 where
  pub sound : IsSound cell.acted
  pub up : AreUp cell.acted
  pub made : AreMade cell
  pub holding : (client blocks : ℕ) → cell.sizes client ≡ Some blocks → IsHolding cell.acted (client_of client (cell.acted.clients client).history blocks)
  pub letters : AreLettersOf cell

-- a line makes no client with the number 0
abbrev pub MakesNumbered : Line → Type 0
MakesNumbered (line.Client client blocks area) = client ≢ 0
MakesNumbered _ = Unit {0}

-- What a line made of a cell: what happened to the actors might happen to them one entry after the other, the cell is kept, and what
-- its histories leave now is what the events leave of what they left before.
pub record IsLeft (old : MadeCell) (events : List Event) : Type 0 where
  pub moved : Moved old.acted (moves_of events) (grown_all old events).acted
  pub kept : IsKept (grown_all old events)
  pub shown : state_of (grown_all old events) ≡ after_all (state_of old) events

-- In a cell that is kept, whatever a line does might happen, and keeps it.
abbrev pub LinesKeepCells : Type 0
LinesKeepCells = (old : MadeCell) (said : Line) (reply : Reply) (events : List Event) → IsKept old → MakesNumbered said → Does (state_of old) said reply events → IsLeft old events

-- In a cell that is kept, each front of what a line does might happen, and keeps it: a line may be stopped behind any of its events.
abbrev pub LinesKeepFronts : Type 0
LinesKeepFronts = (old : MadeCell) (said : Line) (reply : Reply) (done rest : List Event) → IsKept old → MakesNumbered said → Does (state_of old) said reply (done ++ rest) → IsLeft old done

-- What holds of cells that are kept: the first one is, and in each the parent of each object that a client holds is a directory of the object's
-- volume, and what is pending of the client is steady.
pub record CellsAreKept : Type 0 where
  pub first : IsKept nothing_made
  pub orderly : (cell : MadeCell) → IsKept cell → AreOrderly (state_of cell)

-- what a drain says, by the verdict on what it freezes
abbrev pub decided_as : ℕ → ℕ → ℕ → ClientVolume → ReplicaState → Said
decided_as now window client v r = Ok (Drained (v.chunks + 1) (reply.Decided (verdict_of (decision r.tree.nodes client (frozen_now now window r.server v).span))))

-- In a cell that is kept, where a client has no chunk of a volume frozen and may freeze one, and learned of no replica that is none of the cell's, a drain
-- is answered by the verdict on it: by that of all its operations, where they certify, and else by that of what is sent of them.
abbrev pub DrainsAreDecided : Type 0
DrainsAreDecided =
    (cell : MadeCell) (client volume now window : ℕ) (c : ClientState) (r : ReplicaState) → IsKept cell → cell.acted.learned client volume ≡ [] → (state_of cell).clients client ≡ Some c → (state_of cell).replicas volume ≡ Some r
    → (c.volumes volume).frozen ≡ None → freeze_refusal None now window (segments_of (c.volumes volume).back) ≡ None → (c.volumes volume).chunks < 4294967295
    → (drained now window client volume (c.volumes volume) r).said ≡ decided_as now window client (c.volumes volume) r
