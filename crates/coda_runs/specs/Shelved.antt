-- Runs of scripts over whatever stands on the disks of a bay: a cell is its disks; and which lines are refused.
use Rattle.std.specs.Prelude.{◌≡◌, ℕ, true, ◌⊎◌, ◌++◌, List, [], Some, None, Ok, false, Err}
use Rattle.coda_cancel.specs.Cancel.{fold}
use Rattle.coda_engine.specs.Run.{Runs}
use Rattle.coda_plain.specs.Cell.{Joins, deeds_of}
use Rattle.coda_plain.specs.Deeds.{Deed, pending_of}
use Rattle.coda_plain.specs.Logs.{front_of, back_of}
use Rattle.coda_plain.specs.Promises.{ArePromised as ArePromisedOfServers}
use Rattle.coda_cell.specs.State.{log_of, ClientState}
use Rattle.coda_script.specs.declared.line.Line.{Line}
use Rattle.coda_script.specs.declared.reply.Reply.{Reply}
use Rattle.coda_script.specs.Lines.{line_of}
use Rattle.coda_shelves.specs.Cells.{Cell, begun_on, shelves_of, state_of}
use Rattle.coda_shelves.specs.FromBlank.{histories_of}
use Rattle.coda_shelves.specs.Kept.{AreKept}
use Rattle.coda_shelves.specs.Laws.{Stay}
use Rattle.coda_shelves.specs.Lines.{is_built, Happens}
use Rattle.coda_shelves.specs.Promises.{ArePromised}
use Rattle.coda_shelves.specs.Running.{IsKept}
use Rattle.coda_shelves.specs.Shelves.{Shelves, blank_shelves, found_on}
use Rattle.coda_runs.specs.Texts.{text_of}
use Rattle.coda_engine.specs.declared.status.Kind.{Kind}
use Rattle.coda_engine.specs.declared.status.Kind.TheVariants.{Mode}

-- From old, the cell may run this line, with the text of its reply; the bay answers these images, and it is new then.
pub record Replies (old : Cell) (bytes text : List ℕ) (outside : List (List ℕ)) (new : Cell) : Type 0 where
  pub said : Line
  pub reply : Reply
  pub spelled : line_of bytes ≡ Ok (Some said)
  pub built : is_built said ≡ true
  pub happens : Happens old said reply outside new
  pub printed : text ≡ text_of (state_of new) reply

-- From old, the cell may run these bytes as a line, with this text and these answers of the bay, and be new then: a blank line or a comment
-- does nothing and has no reply.
abbrev pub LineGives : Cell → List ℕ → List ℕ → List (List ℕ) → Cell → Type 0
LineGives old bytes text outside new = ((line_of bytes ≡ Ok None) × (text ≡ []) × (outside ≡ []) × (new ≡ old)) ⊎ Replies old bytes text outside new

-- A client's log is what cancellation leaves of what is pending: its chunk of the operations that it was frozen with, and the other records of the rest.
pub record IsOfPending (deeds : List Deed) (c : ClientState) (volume : ℕ) : Type 0 where
  pub chunk : (log_of (c.volumes volume)).chunk ≡ fold (front_of deeds)
  pub records : (log_of (c.volumes volume)).records ≡ fold (back_of deeds)
  pub pending : front_of deeds ++ back_of deeds ≡ pending_of deeds
  pub thawed : (log_of (c.volumes volume)).frozen ≡ None → front_of deeds ≡ []

-- What a run leaves: it is kept; whichever of the failed entries join, its disks keep what is promised; none is lost of what stood on them before, whoever was made
-- again, in whatever order; and logs are what is left of what is pending.
pub record HasRun (shelves : Shelves) (cell : Cell) : Type 0 where
  pub kept : IsKept cell
  pub promised : (joins : Joins) → ArePromised (found_on (shelves_of cell) joins)
  pub stays : Stay shelves (shelves_of cell)
  pub logs : (client volume : ℕ) (c : ClientState) → (state_of cell).clients client ≡ Some c → IsOfPending (deeds_of volume (cell.clients client).disk.history) c volume

-- Whatever lines ran over shelves that are kept, what they left has run, so that a run can begin over its shelves as this one did.
abbrev pub RunsGoOn : Type 0
RunsGoOn = (shelves : Shelves) (end : Cell) (ls : List (List ℕ)) (report : List ℕ) (outside : List (List ℕ)) → AreKept shelves → Runs LineGives (begun_on shelves) ls report outside end → HasRun shelves end

-- Whatever lines ran over blank shelves, what is promised of servers and volumes is promised of it: each chunk is decided at most once by all servers of its volume,
-- and each operation is done once.
abbrev pub RunsFromBlankGoOn : Type 0
RunsFromBlankGoOn = (end : Cell) (ls : List (List ℕ)) (report : List ℕ) (outside : List (List ℕ)) → Runs LineGives (begun_on blank_shelves) ls report outside end → (joins : Joins) → ArePromisedOfServers (histories_of end joins)

-- ---- which lines are refused

-- a line in the grammar that the command doesn't take, or that isn't built
pub record IsUnbuilt (bytes : List ℕ) (column : ℕ) (kind : Kind) : Type 0 where
  pub said : Line
  pub spelled : line_of bytes ≡ Ok (Some said)
  pub unbuilt : is_built said ≡ false
  pub first : column ≡ 1
  pub mode : kind ≡ Mode

-- The bytes are refused as a line: they aren't in the grammar, and this is the first wrong column and what is wrong there; or they say one that
-- isn't built.
abbrev pub IsBadLine : List ℕ → ℕ → Kind → Type 0
IsBadLine bytes column kind = (line_of bytes ≡ Err (column, kind)) ⊎ IsUnbuilt bytes column kind

-- so it is in whatever cell, or whatever else is kept of a script
abbrev pub LineRefused : {S : Type 0} → S → List ℕ → ℕ → Kind → Type 0
LineRefused old bytes column kind = IsBadLine bytes column kind
